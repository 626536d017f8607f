-- The rows of expressions commute with the plain image.
use Rattle.std.proofs.Common.{◌≡◌, ℕ, suc, ◌||◌, not, List, [], ◌∷◌, Bool, Option}
use Rattle.std.proofs.Common.{Some, None, drop}
use Rattle.std.proofs.Common.{map, take, if◌then◌else◌, refl, ap, sym, ◌∙◌}
use Rattle.std.specs.Option.{option_map}
use Rattle.js_value.specs.Image.{image, is_primitive, to_boolean}
use Rattle.js_value.specs.declared.number.Num.{Num}
use Rattle.js_value.specs.declared.value.NativeId.{NativeId}
use Rattle.js_value.specs.declared.value.Value.{Value}
use Rattle.js_value.specs.declared.value.Value.TheVariants as value
use Rattle.js_value.proofs.Images.{is_primitive-image, to_boolean-image}
use Rattle.js_ops.specs.Convert.{is_missing, to_number, to_text}
use Rattle.js_ops.specs.declared.equality.Hint.{Hint}
use Rattle.js_ops.specs.declared.equality.Hint.TheVariants as hint
use Rattle.js_ops.proofs.Images.{to_number-image, to_text-image}
use Rattle.js_heap.specs.World.{World}
use Rattle.js_host.specs.Images.{plain_world}
use Rattle.js_operations.specs.NextNumbers.{next_number}
use Rattle.js_operations.specs.Operations.{operate, operation, operation_wants}
use Rattle.js_operations.specs.Unary.{type_of_option, unary_operate, unary_wants}
use Rattle.js_reference.specs.Callables.{native_of}
use Rattle.js_reference.specs.Deletes.{delete}
use Rattle.js_reference.specs.Errors.{Answer, next_object}
use Rattle.js_reference.specs.Errors.Answer.{Returns, Throws}
use Rattle.js_reference.specs.Functions.{objects_of_function, with_function}
use Rattle.js_reference.specs.Names.{name_value, write_name}
use Rattle.js_reference.specs.Own.{OwnProperties}
use Rattle.js_reference.specs.Properties.{read}
use Rattle.js_reference.specs.Puts.{write}
use Rattle.js_reference.specs.Room.{objects_fit}
use Rattle.js_reference.specs.declared.error.ErrorName.TheVariants.{RangeError, TypeError}
use Rattle.js_term.specs.Completions.{plain_context}
use Rattle.js_term.specs.Place.{Place}
use Rattle.js_term.specs.Place.Place.{At, Host}
use Rattle.js_term.specs.declared.context.Context.{Context}
use Rattle.js_tree.specs.Trees.{Tree}
use Rattle.js_tree.specs.declared.production.BinaryOperator.{BinaryOperator}
use Rattle.js_tree.specs.declared.production.UpdateOperator.{UpdateOperator}
use Rattle.js_tree.specs.declared.production.UpdateOperator.TheVariants as update
use Rattle.js_operands.specs.Conversions.{convert, convert_row, converting, converting_row}
use Rattle.js_operands.specs.Conversions.{conversion, converts, hints, wants_at}
use Rattle.js_operands.specs.Made.{Conversion, Made}
use Rattle.js_operands.specs.Rows.{ExprRow}
use Rattle.js_operands.specs.Setting.{HostFacts}
use Rattle.js_operands.specs.Steps.{call_node, gives, goes_on, operand_at, throws, with_value}
use Rattle.js_operands.specs.declared.row.Method.{Method}
use Rattle.js_operands.specs.declared.row.Side.{Side}
use Rattle.js_operands.specs.declared.row.Side.TheVariants.{Before, Behind}
use Rattle.js_operands.specs.declared.wants.Wants.TheVariants as wants
use Rattle.js_control.specs.Assignments.{computed, early_index, index_is_early, member_is_early}
use Rattle.js_control.specs.Calls.{call_on_row, call_with, new_row, new_with, on_window}
use Rattle.js_control.specs.Literals.{code_at}
use Rattle.js_control.specs.Make.{early_expr, expr_is_early}
use Rattle.js_control.specs.Operators.{operator_wants}
use Rattle.js_control.specs.Updates.{store_next, store_number, stored, update_gives}
use Rattle.js_plain.specs.Images.{OwnCommute, plain_answer}
use Rattle.js_plain.specs.Operations.{OperationsCommute}
use Rattle.js_plain.specs.Operators.{OperatorsCommute}
use Rattle.js_plain.proofs.Calm.{IsCalm}
use Rattle.js_plain.proofs.Common.{if-ap, if-same}
use Rattle.js_plain.proofs.Literals.{operators-plain}
use Rattle.js_plain.proofs.Reading.{missing-plain, thrown-plain}
use Rattle.js_plain.proofs.Values.{next_object-plain, objects_fit-plain, values-plain}
use Rattle.js_plain.proofs.Writing.{operations-plain}
use Rattle.js_plain_rows.specs.Expressions.{EarlyCommute, ExpressionsCommute}
use Rattle.js_plain_rows.specs.Images.{plain_conversion, plain_made}
use Rattle.js_plain_rows.proofs.Conversions.{conversion-plain, convert-plain, converting-plain}
use Rattle.js_plain_rows.proofs.Conversions.{converts-plain, gives-plain, goes_on-plain}
use Rattle.js_plain_rows.proofs.Conversions.{keyed-plain, prepared-plain, throws-plain}
use Rattle.js_plain_rows.proofs.Conversions.{with_value-plain}
use Rattle.js_plain_rows.proofs.Lists.{drop-map, operand-plain, take-map}

-- Early steps.

member_early-plain : (vs : List Value) → member_is_early (map image vs) ≡ member_is_early vs
member_early-plain [] = refl
member_early-plain (e ∷ []) = missing-plain e
member_early-plain (e ∷ k ∷ vs) = refl

index_early-plain : (vs : List Value) → index_is_early (map image vs) ≡ index_is_early vs
index_early-plain [] = refl
index_early-plain (e ∷ []) = refl
index_early-plain (e ∷ k ∷ []) =
    ap (λ b. b || not (is_primitive (image k))) (missing-plain e)
    ∙ ap (λ b. is_missing e || not b) (is_primitive-image k)
index_early-plain (e ∷ k ∷ v ∷ vs) = refl

is_early-plain : (r : ExprRow) (vs : List Value) → expr_is_early r
    (map image vs) ≡ expr_is_early r vs
is_early-plain (ExprRow.AssignMember k) vs = member_early-plain vs
is_early-plain ExprRow.AssignIndex vs = index_early-plain vs
is_early-plain ExprRow.This vs = refl
is_early-plain (ExprRow.Name x) vs = refl
is_early-plain (ExprRow.Array es) vs = refl
is_early-plain (ExprRow.Object ks) vs = refl
is_early-plain ExprRow.Function vs = refl
is_early-plain (ExprRow.Member k) vs = refl
is_early-plain ExprRow.Index vs = refl
is_early-plain ExprRow.Call vs = refl
is_early-plain ExprRow.CallOn vs = refl
is_early-plain (ExprRow.CallMember k xs) vs = refl
is_early-plain (ExprRow.CallIndex xs) vs = refl
is_early-plain ExprRow.New vs = refl
is_early-plain (ExprRow.AssignName x) vs = refl
is_early-plain (ExprRow.ReviseName o x e) vs = refl
is_early-plain (ExprRow.ReviseMember o k e) vs = refl
is_early-plain (ExprRow.ReviseIndex o e) vs = refl
is_early-plain (ExprRow.ComputeName o x) vs = refl
is_early-plain (ExprRow.ComputeMember o k) vs = refl
is_early-plain (ExprRow.ComputeIndex o) vs = refl
is_early-plain (ExprRow.UpdateName o s x) vs = refl
is_early-plain (ExprRow.UpdateMember o s k) vs = refl
is_early-plain (ExprRow.UpdateIndex o s) vs = refl
is_early-plain (ExprRow.StoreName o s x) vs = refl
is_early-plain (ExprRow.StoreMember o s k) vs = refl
is_early-plain (ExprRow.StoreIndex o s) vs = refl
is_early-plain (ExprRow.TypeOfName x) vs = refl
is_early-plain (ExprRow.DeleteMember k) vs = refl
is_early-plain ExprRow.DeleteIndex vs = refl
is_early-plain (ExprRow.Unary o) vs = refl
is_early-plain (ExprRow.Binary o) vs = refl
is_early-plain (ExprRow.And e) vs = refl
is_early-plain (ExprRow.Or e) vs = refl
is_early-plain (ExprRow.Conditional t u) vs = refl
is_early-plain (ExprRow.Comma e) vs = refl
is_early-plain (ExprRow.Convert k) vs = refl
is_early-plain (ExprRow.Converting ms) vs = refl

-- Rows that look at no property.

code-plain : (p : Place) (c : Context) → code_at p (plain_context c) ≡ code_at p c
code-plain (At x u) c = refl
code-plain Host c = refl

on_window-plain : (vs : List Value) → on_window (map image vs) ≡ map image (on_window vs)
on_window-plain [] = refl
on_window-plain (f ∷ vs) = refl

call_hints-plain : (of : NativeId → Bool → ℕ → Option Hint) (w : World) (f f' : Value)
    → f' ≡ image f → (i : ℕ)
    → hints of (wants.Call (native_of (plain_world w) f')) i ≡ hints of (wants.Call
    (native_of w f)) i
call_hints-plain of w f f' e i =
    ap (λ n. hints of (wants.Call n) i) (ap (native_of (plain_world w)) e
    ∙ values-plain.native_of w f)

new_hints-plain : (of : NativeId → Bool → ℕ → Option Hint) (w : World) (f f' : Value)
    → f' ≡ image f
    → (i : ℕ)
    → hints of (wants.New (native_of (plain_world w) f')) i ≡ hints of (wants.New
    (native_of w f)) i
new_hints-plain of w f f' e i =
    ap (λ n. hints of (wants.New n) i) (ap (native_of (plain_world w)) e
    ∙ values-plain.native_of w f)

calm-next : (u : UpdateOperator) (n : Num) → IsCalm (next_number u n)
calm-next update.Increment n = calm-map _
  where
    calm-map : (o : Option Num) → IsCalm (option_map value.Num o)
    calm-map (Some m) = refl
    calm-map None = refl
calm-next update.Decrement n = calm-map _
  where
    calm-map : (o : Option Num) → IsCalm (option_map value.Num o)
    calm-map (Some m) = refl
    calm-map None = refl

module _ {H : Type 0} (g : H → H) where
  this-plain : (w : World) (h : H) (t u : Tree) (b b' : Bool) → b' ≡ b
      → (if b' then Made.Becomes t (plain_world w) (g h) else Made.Becomes u (plain_world w)
      (g h))
      ≡ plain_made g (if b then Made.Becomes t w h else Made.Becomes u w h)
  this-plain w h t u b b' e =
      if-same _ _ _ _ _ _ e refl refl ∙ if-ap (plain_made g) b (Made.Becomes t w h)
      (Made.Becomes u w h)

  gives_at : (v v' : Value) (w : World) (h : H) → v' ≡ image v
      → Made.Gives v' (plain_world w) (g h) ≡ plain_made g (Made.Gives v w h)
  gives_at v v' w h e = ap (λ u. Made.Gives u (plain_world w) (g h)) e

  function-plain : (p : Place) (c : Context) (w : World) (h : H)
      → (if objects_fit (plain_world w) objects_of_function
      then Made.Gives (value.Ref (next_object (plain_world w))) (with_function (plain_world w)
      (code_at p (plain_context c))) (g h)
      else throws RangeError (plain_world w) (g h))
      ≡ plain_made g (if objects_fit w objects_of_function
      then Made.Gives (value.Ref (next_object w)) (with_function w (code_at p c)) h
      else throws RangeError w h)
  function-plain p c w h =
      if-same _ _ _ _ _ _ (objects_fit-plain w objects_of_function)
      (ap (λ o. Made.Gives (value.Ref o) (with_function (plain_world w) (code_at p
      (plain_context c))) (g h)) (next_object-plain w)
      ∙ (ap (λ k. Made.Gives (value.Ref (next_object w)) (with_function (plain_world w) k) (g h))
      (code-plain p c)
      ∙ ap (λ u. Made.Gives (value.Ref (next_object w)) u (g h)) (values-plain.with_function w
      (code_at p c))))
      (throws-plain g RangeError w h)
      ∙ if-ap (plain_made g) (objects_fit w objects_of_function)
      (Made.Gives (value.Ref (next_object w)) (with_function w (code_at p c)) h)
      (throws RangeError w h)

  given : (a a' : Answer H) → a' ≡ plain_answer g a → gives a' ≡ plain_made g (gives a)
  given a a' e = ap gives e ∙ gives-plain g a

  called : (xs : List Tree) (e e' : Value) (a a' : Answer H) → e' ≡ image e
      → a' ≡ plain_answer g a
      → goes_on (call_node xs e') a' ≡ plain_made g (goes_on (call_node xs e) a)
  called xs e e' a a' p q =
      ap (λ x. goes_on (call_node xs x) a') p
      ∙ (ap (goes_on (call_node xs (image e))) q
      ∙ goes_on-plain g (call_node xs e) (call_node xs (image e)) (λ v w h. refl) a)

  valued : (r : ExprRow) (vs us : List Value) (ts : List Tree) (a a' : Answer H)
      → us ≡ map image vs
      → a' ≡ plain_answer g a
      → goes_on (with_value r us ts) a' ≡ plain_made g (goes_on (with_value r vs ts) a)
  valued r vs us ts a a' p q =
      ap (λ l. goes_on (with_value r l ts) a') p
      ∙ (ap (goes_on (with_value r (map image vs) ts)) q
      ∙ goes_on-plain g (with_value r vs ts) (with_value r (map image vs) ts)
      (with_value-plain g r vs ts) a)

  update_gives-plain : (s : Side) (n : Num) (a : Answer H)
      → update_gives s n (plain_answer g a) ≡ plain_answer g (update_gives s n a)
  update_gives-plain Before n a = refl
  update_gives-plain Behind n (Returns v w h) = refl
  update_gives-plain Behind n (Throws v w h) = refl

  module _ (O : OwnProperties H) (own : OwnCommute g O) where
    operations : OperationsCommute g O
    operations = operations-plain g O own

    operators : OperatorsCommute g O
    operators = operators-plain g O own

    read_at : (w : World) (h : H) (v v' : Value) (x x' : List ℕ) → v' ≡ image v → x' ≡ x
        → read O (plain_world w) (g h) v' x' ≡ plain_answer g (read O w h v x)
    read_at w h v v' x x' p q =
        ap (λ u. read O (plain_world w) (g h) u x') p
        ∙ (ap (read O (plain_world w) (g h) (image v)) q ∙ operations.read w h v x)

    write_at : (w : World) (h : H) (u u' : Value) (x x' : List ℕ) (v v' : Value)
        → u' ≡ image u
        → x' ≡ x
        → v' ≡ image v
        → write O (plain_world w) (g h) u' x' v' ≡ plain_answer g (write O w h u x v)
    write_at w h u u' x x' v v' p q r =
        ap (λ y. write O (plain_world w) (g h) y x' v') p
        ∙ (ap (λ y. write O (plain_world w) (g h) (image u) y v') q
        ∙ (ap (write O (plain_world w) (g h) (image u) x) r ∙ operations.write w h u x v))

    delete_at : (w : World) (h : H) (v v' : Value) (x x' : List ℕ) → v' ≡ image v → x' ≡ x
        → delete O (plain_world w) (g h) v' x' ≡ plain_answer g (delete O w h v x)
    delete_at w h v v' x x' p q =
        ap (λ u. delete O (plain_world w) (g h) u x') p
        ∙ (ap (delete O (plain_world w) (g h) (image v)) q ∙ operations.delete w h v x)

    key-plain : (vs : List Value) (n : ℕ) → to_text (operand_at (map image vs) n) ≡ to_text
        (operand_at vs n)
    key-plain vs n = ap to_text (operand-plain vs n) ∙ to_text-image (operand_at vs n)

    wants-plain : (n : ℕ) (o : BinaryOperator) (a a' b b' : Value) → a' ≡ image a
        → b' ≡ image b →
        (i : ℕ)
        → operator_wants n o a' b' i ≡ operator_wants n o a b i
    wants-plain n o a a' b b' p q i =
        ap (λ u. wants_at n (operation_wants (operation o) u b' 0) (operation_wants
        (operation o) u b' 1) i) p
        ∙ (ap (λ u. wants_at n (operation_wants (operation o) (image a) u 0) (operation_wants
        (operation o) (image a) u 1) i) q
        ∙ (ap (λ k. wants_at n k (operation_wants (operation o) (image a) (image b) 1) i)
        (operators.wants (operation o) a b 0)
        ∙ ap (λ k. wants_at n (operation_wants (operation o) a b 0) k i) (operators.wants
        (operation o) a b 1)))

    operate_at : (w : World) (h : H) (o : BinaryOperator) (a a' b b' : Value) → a' ≡ image a
        → b' ≡ image b
        → operate O (plain_world w) (g h) (operation o) a' b' ≡ plain_answer g (operate O w h
        (operation o) a b)
    operate_at w h o a a' b b' p q =
        ap (λ u. operate O (plain_world w) (g h) (operation o) u b') p
        ∙ (ap (operate O (plain_world w) (g h) (operation o) (image a)) q
        ∙ operators.operate w h
        (operation o) a b)

    computed-plain : (w : World) (h : H) (r next : ExprRow) (n : ℕ) (o : BinaryOperator)
        (vs : List Value)
        → computed O (plain_world w) (g h) r next n o (map image vs)
        ≡ plain_made g (computed O w h r next n o vs)
    computed-plain w h r next n o vs =
        let a : Value = operand_at vs n in
        let b : Value = operand_at vs (suc n) in
        prepared-plain g O own w h r (operator_wants n o a b) _
        (wants-plain n o a _ b _ (operand-plain vs n) (operand-plain vs (suc n))) vs
        (goes_on (with_value next (take n vs) []) (operate O w h (operation o) a b)) _
        (valued next (take n vs) _ [] _ _ (take-map image n vs)
        (operate_at w h o a _ b _ (operand-plain vs n) (operand-plain vs (suc n))))

    module _ (w : World) (h : H) (put : Value → Answer H) (put' : Value → Answer H)
        (same : (v : Value) → put' (image v) ≡ plain_answer g (put v)) where
      store_next-plain : (s : Side) (n : Num) (o o' : Option Value) → o' ≡ o → IsCalm o
          → store_next (plain_world w) (g h) put' s n o' ≡ plain_answer g
          (store_next w h put s n o)
      store_next-plain s n o o' p q =
          ap (store_next (plain_world w) (g h) put' s n) (p ∙ sym q) ∙ step o
        where
          step : (o : Option Value)
              → store_next (plain_world w) (g h) put' s n (option_map image o) ≡ plain_answer g
              (store_next w h put s n o)
          step (Some v) = ap (update_gives s n) (same v) ∙ update_gives-plain s n (put v)
          step None = thrown-plain g RangeError w h

      store_number-plain : (u : UpdateOperator) (s : Side) (o o' : Option Num) → o' ≡ o
          → store_number (plain_world w) (g h) put' u s o' ≡ plain_answer g
          (store_number w h put u s o)
      store_number-plain u s o o' e = ap (store_number (plain_world w) (g h) put' u s) e ∙ step o
        where
          step : (o : Option Num)
              → store_number (plain_world w) (g h) put' u s o ≡ plain_answer g
              (store_number w h put u s o)
          step (Some n) = store_next-plain s n (next_number u n) _ refl (calm-next u n)
          step None = thrown-plain g RangeError w h

    stored-plain : (w : World) (h : H) (r : ExprRow) (n : ℕ) (u : UpdateOperator) (s : Side)
        (vs : List Value)
        (put put' : Value → Answer H) → ((v : Value) → put' (image v) ≡ plain_answer g
        (put v))
        → stored O (plain_world w) (g h) r n u s (map image vs) put' ≡ plain_made g
        (stored O w h r n u s vs put)
    stored-plain w h r n u s vs put put' same =
        prepared-plain g O own w h r (wants_at n (Some hint.Number) None) _ (λ i. refl) vs
        (gives (store_number w h put u s (to_number (operand_at vs n)))) _
        (given _ _ (store_number-plain w h put put' same u s (to_number (operand_at vs n)) _
        (ap to_number (operand-plain vs n) ∙ to_number-image (operand_at vs n))))

    convert_row-plain : (w : World) (h : H) (k : Hint) (vs : List Value)
        → convert_row O (plain_world w) (g h) k (map image vs) ≡ plain_made g
        (convert_row O w h k vs)
    convert_row-plain w h k vs =
        let v : Value = operand_at vs 0 in
        if-same _ _ _ _ _ _ (ap is_primitive (operand-plain vs 0) ∙ is_primitive-image v)
        (gives_at v _ w h (operand-plain vs 0))
        (ap (λ u. converting (plain_world w) (g h) (convert O (plain_world w) (g h) k u))
        (operand-plain vs 0)
        ∙ (ap (converting (plain_world w) (g h)) (convert-plain g O own w h k v)
        ∙ converting-plain g w h (convert O w h k v)))
        ∙ if-ap (plain_made g) (is_primitive v) (Made.Gives v w h) (converting w h
        (convert O w h k v))

    converting_row-plain : (w : World) (h : H) (ms : List Method) (vs : List Value)
        → converting_row O (plain_world w) (g h) ms (map image vs) ≡ plain_made g
        (converting_row O w h ms vs)
    converting_row-plain w h ms vs =
        let a : Value = operand_at vs 1 in
        let v : Value = operand_at vs 0 in
        if-same _ _ _ _ _ _ (ap is_primitive (operand-plain vs 1) ∙ is_primitive-image a)
        (gives_at a _ w h (operand-plain vs 1))
        (ap (λ u. converting (plain_world w) (g h) (conversion O (plain_world w) (g h) u ms))
        (operand-plain vs 0)
        ∙ (ap (converting (plain_world w) (g h)) (conversion-plain g O own w h v ms)
        ∙ converting-plain g w h (conversion O w h v ms)))
        ∙ if-ap (plain_made g) (is_primitive a) (Made.Gives a w h) (converting w h
        (conversion O w h v ms))

    early_index-plain : (w : World) (h : H) (vs : List Value)
        → early_index O (plain_world w) (g h) (map image vs) ≡ plain_made g
        (early_index O w h vs)
    early_index-plain w h vs =
        let k : Conversion = convert O w h hint.Text (operand_at vs 1) in
        if-same _ _ _ _ _ _ (ap is_missing (operand-plain vs 0) ∙ missing-plain (operand_at vs 0))
        (throws-plain g TypeError w h)
        (ap (λ u. converts (plain_world w) (g h) ExprRow.AssignIndex (take 1 (map image vs))
        (drop 2
        (map image vs))
        (convert O (plain_world w) (g h) hint.Text u)) (operand-plain vs 1)
        ∙ (ap (converts (plain_world w) (g h) ExprRow.AssignIndex (take 1 (map image vs)) (drop 2
        (map image vs)))
        (convert-plain g O own w h hint.Text (operand_at vs 1))
        ∙ (ap (λ l. converts (plain_world w) (g h) ExprRow.AssignIndex l (drop 2 (map image vs))
        (plain_conversion k))
        (take-map image 1 vs)
        ∙ (ap (λ l. converts (plain_world w) (g h) ExprRow.AssignIndex (map image (take 1 vs)) l
        (plain_conversion k))
        (drop-map image 2 vs)
        ∙ converts-plain g w h ExprRow.AssignIndex (take 1 vs) (drop 2 vs) k))))
        ∙ if-ap (plain_made g) (is_missing (operand_at vs 0)) (throws TypeError w h)
        (converts w h ExprRow.AssignIndex (take 1 vs) (drop 2 vs) k)

    early-plain : (w : World) (h : H) (r : ExprRow) (vs : List Value)
        → early_expr O (plain_world w) (g h) r (map image vs) ≡ plain_made g
        (early_expr O w h r vs)
    early-plain w h ExprRow.AssignIndex vs = early_index-plain w h vs
    early-plain w h (ExprRow.AssignMember k) vs = throws-plain g TypeError w h
    early-plain w h ExprRow.This vs = throws-plain g TypeError w h
    early-plain w h (ExprRow.Name x) vs = throws-plain g TypeError w h
    early-plain w h (ExprRow.Array es) vs = throws-plain g TypeError w h
    early-plain w h (ExprRow.Object ks) vs = throws-plain g TypeError w h
    early-plain w h ExprRow.Function vs = throws-plain g TypeError w h
    early-plain w h (ExprRow.Member k) vs = throws-plain g TypeError w h
    early-plain w h ExprRow.Index vs = throws-plain g TypeError w h
    early-plain w h ExprRow.Call vs = throws-plain g TypeError w h
    early-plain w h ExprRow.CallOn vs = throws-plain g TypeError w h
    early-plain w h (ExprRow.CallMember k xs) vs = throws-plain g TypeError w h
    early-plain w h (ExprRow.CallIndex xs) vs = throws-plain g TypeError w h
    early-plain w h ExprRow.New vs = throws-plain g TypeError w h
    early-plain w h (ExprRow.AssignName x) vs = throws-plain g TypeError w h
    early-plain w h (ExprRow.ReviseName o x e) vs = throws-plain g TypeError w h
    early-plain w h (ExprRow.ReviseMember o k e) vs = throws-plain g TypeError w h
    early-plain w h (ExprRow.ReviseIndex o e) vs = throws-plain g TypeError w h
    early-plain w h (ExprRow.ComputeName o x) vs = throws-plain g TypeError w h
    early-plain w h (ExprRow.ComputeMember o k) vs = throws-plain g TypeError w h
    early-plain w h (ExprRow.ComputeIndex o) vs = throws-plain g TypeError w h
    early-plain w h (ExprRow.UpdateName o s x) vs = throws-plain g TypeError w h
    early-plain w h (ExprRow.UpdateMember o s k) vs = throws-plain g TypeError w h
    early-plain w h (ExprRow.UpdateIndex o s) vs = throws-plain g TypeError w h
    early-plain w h (ExprRow.StoreName o s x) vs = throws-plain g TypeError w h
    early-plain w h (ExprRow.StoreMember o s k) vs = throws-plain g TypeError w h
    early-plain w h (ExprRow.StoreIndex o s) vs = throws-plain g TypeError w h
    early-plain w h (ExprRow.TypeOfName x) vs = throws-plain g TypeError w h
    early-plain w h (ExprRow.DeleteMember k) vs = throws-plain g TypeError w h
    early-plain w h ExprRow.DeleteIndex vs = throws-plain g TypeError w h
    early-plain w h (ExprRow.Unary o) vs = throws-plain g TypeError w h
    early-plain w h (ExprRow.Binary o) vs = throws-plain g TypeError w h
    early-plain w h (ExprRow.And e) vs = throws-plain g TypeError w h
    early-plain w h (ExprRow.Or e) vs = throws-plain g TypeError w h
    early-plain w h (ExprRow.Conditional t u) vs = throws-plain g TypeError w h
    early-plain w h (ExprRow.Comma e) vs = throws-plain g TypeError w h
    early-plain w h (ExprRow.Convert k) vs = throws-plain g TypeError w h
    early-plain w h (ExprRow.Converting ms) vs = throws-plain g TypeError w h

    pub early_steps-plain : EarlyCommute g O
    early_steps-plain = record { is_early = is_early-plain; early = early-plain }

  module _ (F : HostFacts H) (own : OwnCommute g F.own) where
    call_on-plain : (w : World) (h : H) (vs : List Value)
        → call_on_row F (plain_world w) (g h) (map image vs) ≡ plain_made g
        (call_on_row F w h vs)
    call_on-plain w h vs =
        let f : Value = operand_at vs 0 in
        prepared-plain g F.own own w h ExprRow.CallOn (hints F.wants (wants.Call (native_of w f))) _
        (call_hints-plain F.wants w f _ (operand-plain vs 0)) vs
        (Made.Calls f (call_with (operand_at vs 1) (drop 2 vs)) w h) _
        (ap (λ u. Made.Calls u (call_with (operand_at (map image vs) 1) (drop 2 (map image vs)))
        (plain_world w) (g h)) (operand-plain vs 0)
        ∙ (ap (λ u. Made.Calls (image f) (call_with u (drop 2 (map image vs))) (plain_world w)
        (g h)) (operand-plain vs 1)
        ∙ ap (λ l. Made.Calls (image f) (call_with (image (operand_at vs 1)) l) (plain_world w)
        (g h)) (drop-map image 2 vs)))

    new-plain : (w : World) (h : H) (vs : List Value)
        → new_row F (plain_world w) (g h) (map image vs) ≡ plain_made g (new_row F w h vs)
    new-plain w h vs =
        let f : Value = operand_at vs 0 in
        prepared-plain g F.own own w h ExprRow.New (hints F.wants (wants.New (native_of w f))) _
        (new_hints-plain F.wants w f _ (operand-plain vs 0)) vs
        (Made.Calls f (new_with (drop 1 vs)) w h) _
        (ap (λ u. Made.Calls u (new_with (drop 1 (map image vs))) (plain_world w) (g h))
        (operand-plain vs 0)
        ∙ ap (λ l. Made.Calls (image f) (new_with l) (plain_world w) (g h))
        (drop-map image 1 vs))

    pub expressions-plain : ExpressionsCommute g F
    expressions-plain p c w h ExprRow.This vs = refl
    expressions-plain p c w h (ExprRow.Name x) vs = given _ _
        ((operations F.own own).read_name w h c.scope x)
    expressions-plain p c w h (ExprRow.Array es) vs = given _ _
        ((operators F.own own).array_literal w h es vs)
    expressions-plain p c w h (ExprRow.Object ks) vs = given _ _
        ((operators F.own own).object_literal w h ks vs)
    expressions-plain p c w h ExprRow.Function vs = function-plain p c w h
    expressions-plain p c w h (ExprRow.Member k) vs =
        given _ _ (read_at F.own own w h (operand_at vs 0) _ k _ (operand-plain vs 0) refl)
    expressions-plain p c w h ExprRow.Index vs =
        keyed-plain g F.own own w h ExprRow.Index vs _ _
        (given _ _ (read_at F.own own w h (operand_at vs 0) _ (to_text (operand_at vs 1)) _
        (operand-plain vs 0) (key-plain F.own own vs 1)))
    expressions-plain p c w h ExprRow.Call vs =
        ap (call_on_row F (plain_world w) (g h)) (on_window-plain vs) ∙ call_on-plain w h
        (on_window vs)
    expressions-plain p c w h ExprRow.CallOn vs = call_on-plain w h vs
    expressions-plain p c w h (ExprRow.CallMember k xs) vs =
        called xs (operand_at vs 0) _ _ _ (operand-plain vs 0)
        (read_at F.own own w h (operand_at vs 0) _ k _ (operand-plain vs 0) refl)
    expressions-plain p c w h (ExprRow.CallIndex xs) vs =
        keyed-plain g F.own own w h (ExprRow.CallIndex xs) vs _ _
        (called xs (operand_at vs 0) _ _ _ (operand-plain vs 0)
        (read_at F.own own w h (operand_at vs 0) _ (to_text (operand_at vs 1)) _
        (operand-plain vs 0) (key-plain F.own own vs 1)))
    expressions-plain p c w h ExprRow.New vs = new-plain w h vs
    expressions-plain p c w h (ExprRow.AssignName x) vs =
        given _ _ (ap (write_name F.own (plain_world w) (g h) c.scope x) (operand-plain vs 0)
        ∙ (operations F.own own).write_name w h c.scope x (operand_at vs 0))
    expressions-plain p c w h (ExprRow.AssignMember k) vs =
        given _ _ (write_at F.own own w h (operand_at vs 0) _ k _ (operand_at vs 1) _
        (operand-plain vs 0) refl (operand-plain vs 1))
    expressions-plain p c w h ExprRow.AssignIndex vs =
        given _ _ (write_at F.own own w h (operand_at vs 0) _ (to_text (operand_at vs 1)) _
        (operand_at vs 2) _
        (operand-plain vs 0) (key-plain F.own own vs 1) (operand-plain vs 2))
    expressions-plain p c w h (ExprRow.ReviseName o x e) vs =
        valued (ExprRow.ComputeName o x) vs _ (e ∷ []) _ _ refl
        ((operations F.own own).read_name w h c.scope x)
    expressions-plain p c w h (ExprRow.ReviseMember o k e) vs =
        valued (ExprRow.ComputeMember o k) vs _ (e ∷ []) _ _ refl
        (read_at F.own own w h (operand_at vs 0) _ k _ (operand-plain vs 0) refl)
    expressions-plain p c w h (ExprRow.ReviseIndex o e) vs =
        keyed-plain g F.own own w h (ExprRow.ReviseIndex o e) vs _ _
        (valued (ExprRow.ComputeIndex o) vs _ (e ∷ []) _ _ refl
        (read_at F.own own w h (operand_at vs 0) _ (to_text (operand_at vs 1)) _
        (operand-plain vs 0) (key-plain F.own own vs 1)))
    expressions-plain p c w h (ExprRow.ComputeName o x) vs =
        computed-plain F.own own w h (ExprRow.ComputeName o x) (ExprRow.AssignName x) 0 o vs
    expressions-plain p c w h (ExprRow.ComputeMember o k) vs =
        computed-plain F.own own w h (ExprRow.ComputeMember o k) (ExprRow.AssignMember k) 1 o vs
    expressions-plain p c w h (ExprRow.ComputeIndex o) vs =
        computed-plain F.own own w h (ExprRow.ComputeIndex o) ExprRow.AssignIndex 2 o vs
    expressions-plain p c w h (ExprRow.UpdateName o s x) vs =
        valued (ExprRow.StoreName o s x) vs _ [] _ _ refl
        ((operations F.own own).read_name w h c.scope x)
    expressions-plain p c w h (ExprRow.UpdateMember o s k) vs =
        valued (ExprRow.StoreMember o s k) vs _ [] _ _ refl
        (read_at F.own own w h (operand_at vs 0) _ k _ (operand-plain vs 0) refl)
    expressions-plain p c w h (ExprRow.UpdateIndex o s) vs =
        keyed-plain g F.own own w h (ExprRow.UpdateIndex o s) vs _ _
        (valued (ExprRow.StoreIndex o s) vs _ [] _ _ refl
        (read_at F.own own w h (operand_at vs 0) _ (to_text (operand_at vs 1)) _
        (operand-plain vs 0) (key-plain F.own own vs 1)))
    expressions-plain p c w h (ExprRow.StoreName o s x) vs =
        stored-plain F.own own w h (ExprRow.StoreName o s x) 0 o s vs _ _ (λ v.
        (operations F.own own).write_name w h c.scope x v)
    expressions-plain p c w h (ExprRow.StoreMember o s k) vs =
        stored-plain F.own own w h (ExprRow.StoreMember o s k) 1 o s vs _ _
        (λ v. write_at F.own own w h (operand_at vs 0) _ k _ v _ (operand-plain vs 0) refl refl)
    expressions-plain p c w h (ExprRow.StoreIndex o s) vs =
        stored-plain F.own own w h (ExprRow.StoreIndex o s) 2 o s vs _ _
        (λ v. write_at F.own own w h (operand_at vs 0) _ (to_text (operand_at vs 1)) _ v _
        (operand-plain vs 0) (key-plain F.own own vs 1) refl)
    expressions-plain p c w h (ExprRow.TypeOfName x) vs =
        gives_at _ _ w h
        (ap (type_of_option (plain_world w)) ((operations F.own own).name_value w h c.scope x)
        ∙ (operators F.own own).type_of w (name_value F.own w h c.scope x))
    expressions-plain p c w h (ExprRow.DeleteMember k) vs =
        given _ _ (delete_at F.own own w h (operand_at vs 0) _ k _ (operand-plain vs 0) refl)
    expressions-plain p c w h ExprRow.DeleteIndex vs =
        keyed-plain g F.own own w h ExprRow.DeleteIndex vs _ _
        (given _ _ (delete_at F.own own w h (operand_at vs 0) _ (to_text (operand_at vs 1)) _
        (operand-plain vs 0) (key-plain F.own own vs 1)))
    expressions-plain p c w h (ExprRow.Unary o) vs =
        prepared-plain g F.own own w h (ExprRow.Unary o) (wants_at 0 (unary_wants o 0) None) _
        (λ i. refl) vs _ _
        (given _ _ (ap (unary_operate (plain_world w) (g h) o) (operand-plain vs 0)
        ∙ (operators F.own own).unary_operate w h o (operand_at vs 0)))
    expressions-plain p c w h (ExprRow.Binary o) vs =
        let a : Value = operand_at vs 0 in
        let b : Value = operand_at vs 1 in
        prepared-plain g F.own own w h (ExprRow.Binary o) (operator_wants 0 o a b) _
        (wants-plain F.own own 0 o a _ b _ (operand-plain vs 0) (operand-plain vs 1)) vs _ _
        (given _ _ (operate_at F.own own w h o a _ b _ (operand-plain vs 0) (operand-plain vs 1)))
    expressions-plain p c w h (ExprRow.And e) vs =
        if-same _ _ _ _ _ _ (ap to_boolean (operand-plain vs 0) ∙ to_boolean-image
        (operand_at vs 0)) refl
        (gives_at (operand_at vs 0) _ w h (operand-plain vs 0))
        ∙ if-ap (plain_made g) (to_boolean (operand_at vs 0)) (Made.Becomes e w h) (Made.Gives
        (operand_at vs 0) w h)
    expressions-plain p c w h (ExprRow.Or e) vs =
        if-same _ _ _ _ _ _ (ap to_boolean (operand-plain vs 0) ∙ to_boolean-image
        (operand_at vs 0))
        (gives_at (operand_at vs 0) _ w h (operand-plain vs 0)) refl
        ∙ if-ap (plain_made g) (to_boolean (operand_at vs 0)) (Made.Gives (operand_at vs 0) w h)
        (Made.Becomes e w h)
    expressions-plain p c w h (ExprRow.Conditional t u) vs =
        this-plain w h t u (to_boolean (operand_at vs 0)) _
        (ap to_boolean (operand-plain vs 0) ∙ to_boolean-image (operand_at vs 0))
    expressions-plain p c w h (ExprRow.Comma e) vs = refl
    expressions-plain p c w h (ExprRow.Convert k) vs = convert_row-plain F.own own w h k vs
    expressions-plain p c w h (ExprRow.Converting ms) vs = converting_row-plain F.own own w h ms vs
