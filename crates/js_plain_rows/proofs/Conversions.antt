-- Conversions of operands commute with the plain image.
use Rattle.std.proofs.Common.{◌≡◌, ℕ, suc, List, [], ◌∷◌, Option, Some, None, drop}
use Rattle.std.proofs.Common.{map, take}
use Rattle.std.proofs.Common.{unwrap_or, if◌then◌else◌, refl, ap, sym, ◌∙◌}
use Rattle.std.proofs.lemmas.List.{map-append}
use Rattle.js_value.specs.Image.{image}
use Rattle.js_value.specs.declared.value.Value.{Value}
use Rattle.js_value.specs.declared.value.Value.TheVariants as value
use Rattle.js_value.proofs.Images.{is_primitive-image}
use Rattle.js_ops.specs.Convert.{is_missing}
use Rattle.js_ops.specs.declared.equality.Hint.{Hint}
use Rattle.js_heap.specs.World.{World}
use Rattle.js_host.specs.Images.{plain_world}
use Rattle.js_reference.specs.Callables.{is_callable, is_date}
use Rattle.js_reference.specs.Errors.{Answer, thrown}
use Rattle.js_reference.specs.Errors.Answer.{Returns, Throws}
use Rattle.js_reference.specs.Own.{OwnProperties}
use Rattle.js_reference.specs.Properties.{property}
use Rattle.js_reference.specs.declared.error.ErrorName.{ErrorName}
use Rattle.js_reference.specs.declared.error.ErrorName.TheVariants.{TypeError}
use Rattle.js_operands.specs.Conversions.{after_conversion, conversion, convert, converting}
use Rattle.js_operands.specs.Conversions.{converts, first_wanted, key_wanted, keyed, method_name}
use Rattle.js_operands.specs.Conversions.{method_of, methods, prepare, prepared, tried_or}
use Rattle.js_operands.specs.Conversions.{wanted_hint, wanted_or}
use Rattle.js_operands.specs.Made.{Conversion, Made}
use Rattle.js_operands.specs.Made.Conversion.{Fails, Tries}
use Rattle.js_operands.specs.Rows.{ExprRow}
use Rattle.js_operands.specs.Steps.{gives, goes_on, operand_at, throws, with_value}
use Rattle.js_operands.specs.declared.row.Method.{Method}
use Rattle.js_operands.specs.declared.wants.Wanted.{Wanted}
use Rattle.js_tree.specs.Trees.{Tree}
use Rattle.js_plain.specs.Images.{OwnCommute, plain_answer}
use Rattle.js_plain.proofs.Common.{if-ap, if-same}
use Rattle.js_plain.proofs.Reading.{error_value-plain, missing-plain, property-plain, thrown-plain}
use Rattle.js_plain.proofs.Reading.{with_error-plain}
use Rattle.js_plain.proofs.Values.{values-plain}
use Rattle.js_plain_rows.specs.Images.{plain_conversion, plain_made}
use Rattle.js_plain_rows.proofs.Lists.{drop-map, operand-plain, or_undefined, take-map}

wanted_hint-plain : (k : Option Hint) (v : Value) → wanted_hint k (image v) ≡ wanted_hint k v
wanted_hint-plain None v = refl
wanted_hint-plain (Some k) v = ap (λ b. if b then None else Some k) (is_primitive-image v)

first_wanted-plain : (f k : ℕ → Option Hint) → ((i : ℕ) → k i ≡ f i) → (n : ℕ)
    (vs : List Value)
    → first_wanted k n (map image vs) ≡ first_wanted f n vs
first_wanted-plain f k e n [] = refl
first_wanted-plain f k e n (v ∷ vs) =
    ap (λ o. wanted_or (wanted_hint o (image v)) n (first_wanted k (suc n) (map image vs))) (e n)
    ∙ (ap (λ o. wanted_or o n (first_wanted k (suc n) (map image vs))) (wanted_hint-plain
    (f n) v)
    ∙ ap (wanted_or (wanted_hint (f n) v) n) (first_wanted-plain f k e (suc n) vs))

after_conversion-plain : (w : World) (k : Conversion)
    → after_conversion (plain_world w) (plain_conversion k) ≡ plain_world (after_conversion w k)
after_conversion-plain w (Fails v) = with_error-plain w TypeError
after_conversion-plain w (Tries v f ms) = refl

module _ {H : Type 0} (g : H → H) where
  pub gives-plain : (a : Answer H) → gives (plain_answer g a) ≡ plain_made g (gives a)
  gives-plain (Returns v w h) = refl
  gives-plain (Throws v w h) = refl

  pub goes_on-plain : (f k : Value → World → H → Made H)
      → ((v : Value) (w : World) (h : H) → k (image v) (plain_world w) (g h) ≡ plain_made g
      (f v w h))
      → (a : Answer H) → goes_on k (plain_answer g a) ≡ plain_made g (goes_on f a)
  goes_on-plain f k e (Returns v w h) = e v w h
  goes_on-plain f k e (Throws v w h) = refl

  pub throws-plain : (e : ErrorName) (w : World) (h : H)
      → throws e (plain_world w) (g h) ≡ plain_made g (throws e w h)
  throws-plain e w h = ap gives (thrown-plain g e w h) ∙ gives-plain (thrown e w h)

  pub with_value-plain : (r : ExprRow) (vs : List Value) (ts : List Tree) (v : Value) (w : World)
      (h : H)
      → with_value r (map image vs) ts (image v) (plain_world w) (g h)
      ≡ plain_made g (with_value r vs ts v w h)
  with_value-plain r vs ts v w h =
      ap (λ us. Made.GoesOn r us ts (plain_world w) (g h)) (sym (map-append image vs (v ∷ [])))

  pub converting-plain : (w : World) (h : H) (k : Conversion)
      → converting (plain_world w) (g h) (plain_conversion k) ≡ plain_made g (converting w h k)
  converting-plain w h k =
      ap (λ u. Made.Converting (plain_conversion k) u (g h)) (after_conversion-plain w k)

  pub converts-plain : (w : World) (h : H) (r : ExprRow) (before behind : List Value)
      (k : Conversion)
      → converts (plain_world w) (g h) r (map image before) (map image behind)
      (plain_conversion k)
      ≡ plain_made g (converts w h r before behind k)
  converts-plain w h r before behind k =
      ap (λ u. Made.Converts r (map image before) (plain_conversion k) (map image behind) u (g h))
      (after_conversion-plain w k)

  module _ (O : OwnProperties H) (own : OwnCommute g O) where
    method_of-plain : (w : World) (h : H) (v : Value) (m : Method)
        → method_of O (plain_world w) (g h) (image v) m ≡ image (method_of O w h v m)
    method_of-plain w h v m =
        ap (λ o. unwrap_or o value.Undefined) (property-plain g O own w h v (method_name m))
        ∙ or_undefined (property O w h v (method_name m))

    tried_or-plain : (w : World) (h : H) (v : Value) (ms : List Method) (f f' : Value)
        (k k' : Conversion)
        → f' ≡ image f → k' ≡ plain_conversion k
        → tried_or O (plain_world w) (g h) (image v) ms f' k' ≡ plain_conversion
        (tried_or O w h v ms f k)
    tried_or-plain w h v ms f f' k k' p q =
        if-same _ _ _ _ _ _ (ap (is_callable (plain_world w)) p ∙ values-plain.is_callable w f)
        (ap (λ u. Tries (image v) u ms) p) q
        ∙ if-ap plain_conversion (is_callable w f) (Tries v f ms) k

    pub conversion-plain : (w : World) (h : H) (v : Value) (ms : List Method)
        → conversion O (plain_world w) (g h) (image v) ms ≡ plain_conversion
        (conversion O w h v ms)
    conversion-plain w h v [] = ap Fails (error_value-plain w TypeError)
    conversion-plain w h v (m ∷ ms) =
        tried_or-plain w h v ms (method_of O w h v m) _ (conversion O w h v ms) _
        (method_of-plain w h v m)
        (conversion-plain w h v ms)

    pub convert-plain : (w : World) (h : H) (k : Hint) (v : Value)
        → convert O (plain_world w) (g h) k (image v) ≡ plain_conversion (convert O w h k v)
    convert-plain w h k v =
        ap (λ d. conversion O (plain_world w) (g h) (image v) (methods k d))
        (values-plain.is_date w v)
        ∙ conversion-plain w h v (methods k (is_date w v))

    prepare-plain : (w : World) (h : H) (r : ExprRow) (vs : List Value) (m m' : Made H)
        → m' ≡ plain_made g m
        → (o : Option Wanted)
        → prepare O (plain_world w) (g h) r (map image vs) m' o ≡ plain_made g
        (prepare O w h r vs m o)
    prepare-plain w h r vs m m' e None = e
    prepare-plain w h r vs m m' e (Some k) =
        let v : Value = operand_at vs k.place in
        ap (λ u. converts (plain_world w) (g h) r (take k.place (map image vs)) (drop (suc k.place)
        (map image vs))
        (convert O (plain_world w) (g h) k.by u)) (operand-plain vs k.place)
        ∙ (ap (converts (plain_world w) (g h) r (take k.place (map image vs)) (drop (suc k.place)
        (map image vs)))
        (convert-plain w h k.by v)
        ∙ (ap (λ l. converts (plain_world w) (g h) r l (drop (suc k.place) (map image vs))
        (plain_conversion (convert O w h k.by v)))
        (take-map image k.place vs)
        ∙ (ap (λ l. converts (plain_world w) (g h) r (map image (take k.place vs)) l
        (plain_conversion (convert O w h k.by v)))
        (drop-map image (suc k.place) vs)
        ∙ converts-plain w h r (take k.place vs) (drop (suc k.place) vs) (convert O w h k.by v))))

    pub prepared-plain : (w : World) (h : H) (r : ExprRow) (f k : ℕ → Option Hint) →
        ((i : ℕ)
        → k i ≡ f i)
        → (vs : List Value) (m m' : Made H) → m' ≡ plain_made g m
        → prepared O (plain_world w) (g h) r k (map image vs) m' ≡ plain_made g
        (prepared O w h r f vs m)
    prepared-plain w h r f k e vs m m' q =
        ap (prepare O (plain_world w) (g h) r (map image vs) m') (first_wanted-plain f k e 0 vs)
        ∙ prepare-plain w h r vs m m' q (first_wanted f 0 vs)

    pub keyed-plain : (w : World) (h : H) (r : ExprRow) (vs : List Value) (m m' : Made H)
        → m' ≡ plain_made g m
        → keyed O (plain_world w) (g h) r (map image vs) m' ≡ plain_made g (keyed O w h r vs m)
    keyed-plain w h r vs m m' q =
        if-same _ _ _ _ _ _ (ap is_missing (operand-plain vs 0) ∙ missing-plain (operand_at vs 0))
        (throws-plain TypeError w h) (prepared-plain w h r key_wanted key_wanted
        (λ i. refl) vs m m' q)
        ∙ if-ap (plain_made g) (is_missing (operand_at vs 0)) (throws TypeError w h)
        (prepared O w h r key_wanted vs m)
