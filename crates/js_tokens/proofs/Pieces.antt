-- The pieces of a string, one by one.
use Rattle.std.proofs.Common.{◌≡◌, ℕ, ◌+◌, Bool, true, false, ◌||◌, ◌==◌, List, [], ◌∷◌, ◌++◌, drop, refl, sym, ◌∙◌, ap, subst, arith, append_assoc, Option, None, Some, cond}
use Rattle.std.specs.Option.{option_to_list}
use Rattle.mug_text.specs.Characters.{is_line_end}
use Rattle.js_tokens.specs.Units.{begins}
use Rattle.js_tokens.specs.Strings.{piece, Inside, closes, more}
use Rattle.js_tokens.specs.declared.strings.Piece.{Piece}
use Rattle.js_tokens.proofs.Comments.{drop_drop}

quote_by : (a b : Bool) (o : Option Piece) → a ≡ true → cond (a || b) None o ≡ None
quote_by true b o h = refl
quote_by false b o h = cc

-- the quote is no piece
quote_none : (q : ℕ) (us : List ℕ) → begins (λ u. u == q) us ≡ true → piece q us ≡ None
quote_none q [] h = refl
quote_none q (u ∷ us) h = quote_by (u == q) (is_line_end u) _ h

some_one : (p q : Piece) → ◌≡◌ {A = Option Piece} (Some p) (Some q) → p ≡ q
some_one p q h = cc

some_none : (o : Option Piece) (p : Piece) → o ≡ Some p → o ≡ None → ⊥
some_none o p h g = cc

pub none_inside : (q : ℕ) (us : List ℕ) (m : ℕ) (v : List ℕ) → piece q us ≡ None → begins (λ u. u == q) us ≡ false → Inside q us m v → ⊥
none_inside q us m v h g (closes b) = cc (sym g ∙ b)
none_inside q us m v h g (more e r) = some_none (piece q us) _ e h

pub inside_tail : (q : ℕ) (us : List ℕ) (p : Piece) (m : ℕ) (v : List ℕ) → piece q us ≡ Some p → Inside q us m v → (k : ℕ) × (w : List ℕ) × Inside q (drop p.len us) k w
inside_tail q us p m v h (closes b) = absurd (some_none (piece q us) p h (quote_none q us b))
inside_tail q us p m v h (more {p = p'} {n = n} {value = value} e r) =
    (n, value, subst (λ z. Inside q (drop z.len us) n value) (some_one p' p (sym e ∙ h)) r)

-- one piece more
pub inside_more : (q : ℕ) (us start out now : List ℕ) (at : ℕ) (p : Piece) → ((n : ℕ) (v : List ℕ) → Inside q (drop at us) n v → (w : List ℕ) × Inside q us (at + n) w × (start ++ w ≡ out ++ v)) → piece q (drop at us) ≡ Some p → now ≡ out ++ option_to_list p.value →
    (n : ℕ) (v : List ℕ) → Inside q (drop (at + p.len) us) n v → (w : List ℕ) × Inside q us (at + p.len + n) w × (start ++ w ≡ now ++ v)
inside_more q us start out now at p on h e n v g =
    let (w, i, same) = on (p.len + n) (option_to_list p.value ++ v) (more h (subst (λ z. Inside q z n v) (sym (drop_drop at p.len us)) g)) in
    (w, subst (λ z. Inside q us z w) (omega arith) i, same ∙ sym (append_assoc out (option_to_list p.value) v) ∙ ap (λ z. z ++ v) (sym e))

-- a string has one length and one value
pub inside_one : {q : ℕ} {us : List ℕ} {m n : ℕ} {v w : List ℕ} → Inside q us m v → Inside q us n w → (m ≡ n) × (v ≡ w)
inside_one (closes a) (closes b) = (refl, refl)
inside_one {q = q} {us = us} (closes a) (more e r) = absurd (some_none (piece q us) _ e (quote_none q us a))
inside_one {q = q} {us = us} (more e r) (closes b) = absurd (some_none (piece q us) _ e (quote_none q us b))
inside_one {q = q} {us = us} (more {p = p} e r) (more {p = p'} {n = n'} {value = v'} e' r') =
    let is : p' ≡ p = some_one p' p (sym e' ∙ e) in
    let rest = inside_one r (subst (λ z. Inside q (drop z.len us) n' v') is r') in
    (omega (arith, rest.0, ap (λ z. z.len) is), ap (λ z. option_to_list p.value ++ z) rest.1 ∙ ap (λ z. option_to_list z.value ++ v') (sym is))
