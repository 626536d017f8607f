-- Where a comment ends.
use Rattle.std.proofs.Common.{◌≡◌, ℕ, zero, suc, ◌+◌, ◌<◌, true, false, List, [], ◌∷◌, length, get_or, drop, drop-cons, add-one, refl, sym, ◌∙◌, ap, subst, arith, Option, None, Some, Bool, cond, ◌||◌, take}
use Rattle.std.specs.Prelude.{codes}
use Rattle.std.proofs.Math.Bool.{or_assoc}
use Rattle.std.proofs.Math.Seq.{drop-nil}
use Rattle.std.specs.List.{list_any}
use Rattle.std.specs.Option.{option_map}
use Rattle.std.proofs.lemmas.Bool.{cond-true, cond-false}
use Rattle.mug_text.specs.Characters.{is_line_end}
use Rattle.js_tokens.specs.Units.{opens}
use Rattle.js_tokens.specs.Gaps.{star_slash, blank, Gap, none, more}

pub star_here : (us : List ℕ) → opens us (codes "*/") ≡ true → star_slash us ≡ Some 2
star_here [] h = cc
star_here (u ∷ us) h = cond-true _ _ _ h

pub star_later : (us : List ℕ) (i : ℕ) → i < length us → opens (drop i us) (codes "*/") ≡ false → star_slash (drop i us) ≡ option_map (λ n. n + 1) (star_slash (drop (i + 1) us))
star_later us i inside h =
    let cut : drop i us ≡ get_or us i 0 ∷ drop (i + 1) us = rw (add-one, drop-cons us i 0) refl in
    ap star_slash cut ∙ cond-false _ _ _ (ap (λ z. opens z (codes "*/")) (sym cut) ∙ h)

-- there is none behind, either
none_by : (b : Bool) (o : Option ℕ) → cond b (Some 2) (option_map (λ n. n + 1) o) ≡ None → o ≡ None
none_by true o h = cc
none_by false None h = refl
none_by false (Some n) h = cc

none_behind : (u : ℕ) (us : List ℕ) → star_slash (u ∷ us) ≡ None → star_slash us ≡ None
none_behind u us h = none_by (opens (u ∷ us) (codes "*/")) (star_slash us) h

pub star_none : (us : List ℕ) (k : ℕ) → star_slash us ≡ None → star_slash (drop k us) ≡ None
star_none us zero h = h
star_none [] (suc k) h = refl
star_none (u ∷ us) (suc k) h = star_none us k (none_behind u us h)

zero_add : (b : ℕ) → 0 + b ≡ b
zero_add b = omega arith

pub drop_drop : (a b : ℕ) (us : List ℕ) → drop b (drop a us) ≡ drop (a + b) us
drop_drop zero b us = rw (zero_add b) refl
drop_drop (suc a) b [] = rw (drop-nil b) (sym (drop-nil (suc a + b)))
drop_drop (suc a) b (u ∷ us) =
    let e : suc a + b ≡ suc (a + b) = omega arith in
    rw e (drop_drop a b us)

-- no comment that begins later is ended
pub dry_later : (us : List ℕ) (a b : ℕ) → star_slash (drop 2 (drop a us)) ≡ None → star_slash (drop 2 (drop (a + b) us)) ≡ None
dry_later us a b h =
    let e : drop 2 (drop (a + b) us) ≡ drop b (drop 2 (drop a us)) =
    ap (drop 2) (sym (drop_drop a b us)) ∙ drop_drop b 2 (drop a us) ∙ ap (λ n. drop n (drop a us)) (omega arith) ∙ sym (drop_drop 2 b (drop a us)) in
    ap star_slash e ∙ star_none (drop 2 (drop a us)) b h

or_false : (b : Bool) → (b || false) ≡ b
or_false true = refl
or_false false = refl

-- a gap that ends here
pub gap_end : (us : List ℕ) (n : ℕ) (line : Bool) → ((m : ℕ) (l : Bool) → Gap (drop n us) m l → Gap us (n + m) (line || l)) → blank (drop n us) ≡ 0 → Gap us n line
gap_end us n line on h =
    subst (λ m. Gap us m line) (omega arith) (subst (Gap us (n + 0)) (or_false line) (on 0 false (none h)))

-- a gap that goes on by one piece
pub gap_more : (us : List ℕ) (n k : ℕ) (line now : Bool) → ((m : ℕ) (l : Bool) → Gap (drop n us) m l → Gap us (n + m) (line || l)) → k ≡ blank (drop n us) → 0 < k → now ≡ (line || list_any is_line_end (take k (drop n us))) →
    (m : ℕ) (l : Bool) → Gap (drop (n + k) us) m l → Gap us (n + k + m) (now || l)
gap_more us n k line now on is pos e m l g =
    let here : Gap (drop k (drop n us)) m l = subst (λ z. Gap z m l) (sym (drop_drop n k us)) g in
    let one : Gap (drop n us) (k + m) (list_any is_line_end (take k (drop n us)) || l) = piece_more (drop n us) k m l is pos here in
    let all = on (k + m) (list_any is_line_end (take k (drop n us)) || l) one in
    let same : (line || (list_any is_line_end (take k (drop n us)) || l)) ≡ (now || l) = sym (or_assoc line (list_any is_line_end (take k (drop n us))) l) ∙ ap (λ z. z || l) (sym e) in
    subst (λ z. Gap us z (now || l)) (omega arith) (subst (Gap us (n + (k + m))) same all)
  where
    piece_more : (vs : List ℕ) (j m' : ℕ) (l' : Bool) → j ≡ blank vs → 0 < j → Gap (drop j vs) m' l' → Gap vs (j + m') (list_any is_line_end (take j vs) || l')
    piece_more vs j m' l' is' pos' g' =
        subst (λ z. Gap vs (z + m') (list_any is_line_end (take z vs) || l')) (sym is') (more (subst (λ z. 0 < z) is' pos') (subst (λ z. Gap (drop z vs) m' l') is' g'))
