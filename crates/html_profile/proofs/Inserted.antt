-- A page into which the script was inserted.
use Rattle.std.proofs.Common.{◌≡◌, ◌≢◌, ℕ, zero, suc, ◌+◌, ◌-◌, ◌<◌, ◌≤◌, ◌↔◌, ⊎_elim, Bool, true, false, cond, ◌&&◌, ◌==◌, List, [], ◌∷◌, ◌++◌, length, take, drop, get_or, nat_lt, codes, zero-add, refl, sym, ap, subst, ◌∙◌, arith, length-append}
use Rattle.std.proofs.lemmas.Bool.{and_parts, and_from, cases_Bool, cond-true, cond-false, eqb-true, ne_eqb, ltb-true, lt-ltb, false≢true}
use Rattle.std.proofs.lemmas.List.{length-drop, length-take-le}
use Rattle.std.specs.Char.{to_ascii_lowercase}
use Rattle.std.specs.Str.{bytes_eq}
use Rattle.html_profile.specs.Marks.{opens, opens_lowered, place, from, stands}
use Rattle.html_profile.specs.FirstPlace.{mark_len, opens_doctype, first_place}
use Rattle.html_profile.specs.InsertedScript.{inserted_script}
use Rattle.html_profile.specs.Page.{Page, opens_prelude, without_prelude, with_inserted, IsPageBehind, IsPage}
use Rattle.html_profile.specs.declared.mark.Mark.{Mark}
use Rattle.html_profile.specs.declared.mark.Mark.TheVariants.{TagEnd, Ink}
use Rattle.html_profile.proofs.Utf8Parts.{opens_at}
use Rattle.html_profile.proofs.Utf8Page.{byte_order_mark, doctype_len, place_split, drop_add, drop_within, mark_within, take_drop}

-- ---- lists

take_within : (m k : ℕ) (bs rest : List ℕ) → m ≤ length bs → take m (take (m + k) bs ++ rest) ≡ take m bs
take_within zero k bs rest within = refl
take_within (suc m) k [] rest within = absurd (omega arith)
take_within (suc m) k (b ∷ bs) rest within =
    let e : suc m + k ≡ suc (m + k) = omega arith in
    ap (λ n. take (suc m) (take n (b ∷ bs) ++ rest)) e ∙ ap (λ l. b ∷ l) (take_within m k bs rest (omega arith))

drop_taken : (n : ℕ) (bs rest : List ℕ) → n ≤ length bs → drop n (take n bs ++ rest) ≡ rest
drop_taken zero bs rest within = refl
drop_taken (suc n) [] rest within = absurd (omega arith)
drop_taken (suc n) (b ∷ bs) rest within = drop_taken n bs rest (omega arith)

take_taken : (n : ℕ) (bs rest : List ℕ) → n ≤ length bs → take n (take n bs ++ rest) ≡ take n bs
take_taken zero bs rest within = refl
take_taken (suc n) [] rest within = absurd (omega arith)
take_taken (suc n) (b ∷ bs) rest within = ap (λ l. b ∷ l) (take_taken n bs rest (omega arith))

-- ---- marks of one byte, found in a front

abbrev OneByte : Mark → Type 0
OneByte mark = (c : ℕ) (xs ys : List ℕ) → stands mark (c ∷ xs) ≡ stands mark (c ∷ ys)

place_take : (mark : Mark) → OneByte mark → (text rest : List ℕ) (n : ℕ) → place mark text < n → place mark text < length text → place mark (take n text ++ rest) ≡ place mark text
place_take mark one [] rest n less inside = absurd (omega arith)
place_take mark one (c ∷ text) rest zero less inside = absurd (omega arith)
place_take mark one (c ∷ text) rest (suc n) less inside =
    ⊎_elim
    (λ here. cond-true _ 0 (place mark (take n text ++ rest) + 1) (one c (take n text ++ rest) text ∙ here) ∙ sym (cond-true _ 0 (place mark text + 1) here))
    (λ other.
    let at : place mark (c ∷ text) ≡ place mark text + 1 = cond-false _ 0 (place mark text + 1) other in
    cond-false _ 0 (place mark (take n text ++ rest) + 1) (one c (take n text ++ rest) text ∙ other) ∙ ap (λ k. k + 1) (place_take mark one text rest n (omega arith) (omega arith)) ∙ sym at)
    (cases_Bool (stands mark (c ∷ text)))

ink_one : OneByte Ink
ink_one c xs ys = refl

tag_end_one : OneByte TagEnd
tag_end_one c xs ys = refl

lowered_take : (text bytes rest : List ℕ) (n : ℕ) → opens_lowered text bytes ≡ true → length bytes ≤ n → opens_lowered (take n text ++ rest) bytes ≡ true
lowered_take text [] rest n is within = refl
lowered_take [] (b ∷ bytes) rest n is within = absurd (false≢true is)
lowered_take (c ∷ text) (b ∷ bytes) rest zero is within = absurd (omega arith)
lowered_take (c ∷ text) (b ∷ bytes) rest (suc n) is within =
    let both = and_parts (to_ascii_lowercase c == b) (opens_lowered text bytes) is in
    and_from (to_ascii_lowercase c == b) (opens_lowered (take n text ++ rest) bytes) both.0 (lowered_take text bytes rest n both.1 (omega arith))

-- no byte of these is `>`
abbrev NoEnd : List ℕ → Type 0
NoEnd [] = Unit {0}
NoEnd (b ∷ bytes) = (b ≢ 62) × NoEnd bytes

later_end : (text bytes : List ℕ) → opens_lowered text bytes ≡ true → NoEnd bytes → length bytes ≤ place TagEnd text
later_end text [] is none = omega arith
later_end [] (b ∷ bytes) is none = absurd (false≢true is)
later_end (c ∷ text) (b ∷ bytes) is none =
    let both = and_parts (to_ascii_lowercase c == b) (opens_lowered text bytes) is in
    let same = eqb-true (to_ascii_lowercase c) b both.0 in
    let other : (c == 62) ≡ false = ne_eqb c 62 (λ e. none.0 (sym same ∙ ap to_ascii_lowercase e)) in
    let more = later_end text bytes both.1 none.1 in
    let at : place TagEnd (c ∷ text) ≡ place TagEnd text + 1 = cond-false (c == 62) 0 (place TagEnd text + 1) other in
    omega arith

doctype_bytes : NoEnd (codes "<!doctype")
doctype_bytes = (
  (λ e. absurd (omega arith)),
  (
    (λ e. absurd (omega arith)),
    (
      (λ e. absurd (omega arith)),
      (
        (λ e. absurd (omega arith)),
        (
          (λ e. absurd (omega arith)),
          ((λ e. absurd (omega arith)), ((λ e. absurd (omega arith)), ((λ e. absurd (omega arith)), ((λ e. absurd (omega arith)), tt)))),
        ),
      ),
    ),
  ),
)

-- ---- the doctype

abbrev HasDoctype : List ℕ → Type 0
HasDoctype text = opens_doctype (from Ink text) ≡ true

module _ (text : List ℕ) (is : HasDoctype text) where
  i : ℕ
  i = place Ink text

  p : ℕ
  p = place TagEnd (from Ink text)

  long_is : doctype_len text ≡ i + p + 1
  unfolding i p
  long_is = cond-true (opens_doctype (from Ink text)) (place Ink text + place TagEnd (from Ink text) + 1) 0 is

  name_is : opens_lowered (from Ink text) (codes "<!doctype") ≡ true
  name_is = (and_parts (opens_lowered (from Ink text) (codes "<!doctype")) _ is).0

  end_inside : p < length (from Ink text)
  unfolding p
  end_inside = ltb-true (place TagEnd (from Ink text)) (length (from Ink text)) (and_parts (opens_lowered (from Ink text) (codes "<!doctype")) _ is).1

  within_text : doctype_len text ≤ length text
  unfolding i
  within_text = let e = long_is in let inside = end_inside in omega (arith, length-drop (place Ink text) text)

  after_front : (rest : List ℕ) → doctype_len (take (doctype_len text) text ++ rest) ≡ doctype_len text
  unfolding i p
  after_front rest =
      let u = from Ink text in
      let inside = end_inside in
      let i_inside : place Ink text < length text = omega (arith, length-drop (place Ink text) text) in
      let e : doctype_len text ≡ place Ink text + (place TagEnd u + 1) = omega (arith, long_is) in
      let t = take (place Ink text + (place TagEnd u + 1)) text ++ rest in
      let ink_at : place Ink t ≡ place Ink text = place_take Ink ink_one text rest (place Ink text + (place TagEnd u + 1)) (omega arith) i_inside in
      let u_is : from Ink t ≡ take (place TagEnd u + 1) u ++ rest = ap (λ n. drop n t) ink_at ∙ drop_within (place Ink text) (place TagEnd u + 1) text rest (omega arith) in
      let v = take (place TagEnd u + 1) u ++ rest in
      let end_at : place TagEnd v ≡ place TagEnd u = place_take TagEnd tag_end_one u rest (place TagEnd u + 1) (omega arith) inside in
      let later = later_end u (codes "<!doctype") name_is doctype_bytes in
      let name = lowered_take u (codes "<!doctype") rest (place TagEnd u + 1) name_is (omega arith) in
      let long : place TagEnd u < length v = omega (arith, length-append (take (place TagEnd u + 1) u) rest, length-take-le (place TagEnd u + 1) u (omega arith)) in
      let doctype : opens_doctype v ≡ true = and_from (opens_lowered v (codes "<!doctype")) (nat_lt (place TagEnd v) (length v)) name (lt-ltb (place TagEnd v) (length v) (subst (λ n. n < length v) (sym end_at) long)) in
      let whole : doctype_len t ≡ place Ink t + place TagEnd (from Ink t) + 1 = cond-true (opens_doctype (from Ink t)) (place Ink t + place TagEnd (from Ink t) + 1) 0 (ap opens_doctype u_is ∙ doctype) in
      ap (λ n. doctype_len (take n text ++ rest)) e ∙ whole ∙ ap (λ n. n + place TagEnd (from Ink t) + 1) ink_at ∙ ap (λ l. place Ink text + place TagEnd l + 1) u_is
      ∙ ap (λ n. place Ink text + n + 1) end_at ∙ sym long_is

no_doctype : (text : List ℕ) → opens_doctype (from Ink text) ≡ false → doctype_len text ≡ 0
no_doctype text is = cond-false (opens_doctype (from Ink text)) (place Ink text + place TagEnd (from Ink text) + 1) 0 is

doctype_within : (text : List ℕ) → doctype_len text ≤ length text
doctype_within text = ⊎_elim (λ is. within_text text is) (λ other. let e = no_doctype text other in omega arith) (cases_Bool (opens_doctype (from Ink text)))

-- behind an inserted script the doctype is as long as before
same_doctype : (text : List ℕ) → doctype_len (take (doctype_len text) text ++ (inserted_script ++ drop (doctype_len text) text)) ≡ doctype_len text
same_doctype text =
    ⊎_elim
    (λ is. after_front text is (inserted_script ++ drop (doctype_len text) text))
    (λ other.
    let e = no_doctype text other in
    let at_front : doctype_len (inserted_script ++ text) ≡ 0 = refl in
    ap (λ n. doctype_len (take n text ++ (inserted_script ++ drop n text))) e ∙ at_front ∙ sym e)
    (cases_Bool (opens_doctype (from Ink text)))

-- ---- the byte order mark

-- a text that has a doctype, or nothing in front of the script, doesn't begin with a byte order mark
first_byte : (text : List ℕ) → get_or (take (doctype_len text) text ++ (inserted_script ++ drop (doctype_len text) text)) 0 0 ≡ 0xEF → ⊥
first_byte text is =
    ⊎_elim
    (λ doctype. with_doctype text doctype (omega (arith, long_is text doctype)) is)
    (λ other.
    let e = no_doctype text other in
    let first : 60 ≡ 0xEF = sym (ap (λ n. get_or (take n text ++ (inserted_script ++ drop n text)) 0 0) e) ∙ is in
    absurd (omega arith))
    (cases_Bool (opens_doctype (from Ink text)))
  where
    with_doctype : (t : List ℕ) → HasDoctype t → 0 < doctype_len t → get_or (take (doctype_len t) t ++ (inserted_script ++ drop (doctype_len t) t)) 0 0 ≡ 0xEF → ⊥
    with_doctype [] doctype some first = false≢true doctype
    with_doctype (c ∷ t) doctype some first =
        let e : doctype_len (c ∷ t) ≡ suc (doctype_len (c ∷ t) - 1) = omega arith in
        let c_is : c ≡ 0xEF = sym (ap (λ n. get_or (take n (c ∷ t) ++ (inserted_script ++ drop (doctype_len (c ∷ t)) (c ∷ t))) 0 0) e) ∙ first in
        false≢true (subst (λ b. HasDoctype (b ∷ t)) c_is doctype)

module _ (q : List ℕ) where
  at : first_place q ≡ mark_len q + doctype_len (drop (mark_len q) q)
  at = place_split q

  place_within : first_place q ≤ length q
  place_within = let e = at in let a = mark_within q in let b = doctype_within (drop (mark_len q) q) in omega (arith, length-drop (mark_len q) q)

  behind_is : drop (first_place q) q ≡ drop (doctype_len (drop (mark_len q) q)) (drop (mark_len q) q)
  behind_is = ap (λ n. drop n q) at ∙ drop_add (mark_len q) (doctype_len (drop (mark_len q) q)) q

  mark_there : opens q byte_order_mark ≡ true → mark_len (with_inserted q) ≡ mark_len q
  mark_there is =
      let three : mark_len q ≡ 3 = cond-true (opens q byte_order_mark) 3 0 is in
      let rest = inserted_script ++ drop (first_place q) q in
      let e : first_place q ≡ 3 + doctype_len (drop (mark_len q) q) = at ∙ ap (λ n. n + doctype_len (drop (mark_len q) q)) three in
      let within : 3 ≤ length q = subst (λ n. n ≤ length q) three (mark_within q) in
      let same : take 3 (with_inserted q) ≡ take 3 q = ap (λ n. take 3 (take n q ++ rest)) e ∙ take_within 3 (doctype_len (drop (mark_len q) q)) q rest within in
      let front : opens (with_inserted q) byte_order_mark ≡ true = ap (bytes_eq byte_order_mark) same ∙ is in
      cond-true (opens (with_inserted q) byte_order_mark) 3 0 front ∙ sym three

  no_mark : opens q byte_order_mark ≡ false → mark_len (with_inserted q) ≡ mark_len q
  no_mark other =
      let none : mark_len q ≡ 0 = cond-false (opens q byte_order_mark) 3 0 other in
      let e : first_place q ≡ doctype_len q = at ∙ ap (λ n. n + doctype_len (drop n q)) none ∙ zero-add (doctype_len q) in
      let front : opens (with_inserted q) byte_order_mark ≡ false =
      ⊎_elim
      (λ is.
      let first : get_or (with_inserted q) 0 0 ≡ 0xEF = opens_at (with_inserted q) byte_order_mark 0 is (omega arith) in
      absurd (first_byte q (sym (ap (λ n. get_or (take n q ++ (inserted_script ++ drop n q)) 0 0) e) ∙ first)))
      (λ is. is)
      (cases_Bool (opens (with_inserted q) byte_order_mark)) in
      cond-false (opens (with_inserted q) byte_order_mark) 3 0 front ∙ sym none

  pub same_mark : mark_len (with_inserted q) ≡ mark_len q
  same_mark = ⊎_elim mark_there no_mark (cases_Bool (opens q byte_order_mark))

  pub same_place : first_place (with_inserted q) ≡ first_place q
  same_place =
      let text = drop (mark_len q) q in
      let rest = inserted_script ++ drop (first_place q) q in
      let behind : drop (mark_len q) (with_inserted q) ≡ take (doctype_len text) text ++ (inserted_script ++ drop (doctype_len text) text) =
      ap (λ n. drop (mark_len q) (take n q ++ rest)) at ∙ drop_within (mark_len q) (doctype_len text) q rest (mark_within q)
      ∙ ap (λ l. take (doctype_len text) text ++ (inserted_script ++ l)) behind_is in
      place_split (with_inserted q) ∙ ap (λ n. n + doctype_len (drop n (with_inserted q))) same_mark ∙ ap (λ l. mark_len q + doctype_len l) behind
      ∙ ap (λ n. mark_len q + n) (same_doctype text) ∙ sym at

  pub page_without : opens_prelude (drop (first_place q) q) ≡ false → without_prelude (with_inserted q) ≡ without_prelude q
  unfolding opens_prelude
  page_without none =
      let rest = inserted_script ++ drop (first_place q) q in
      let behind : drop (first_place (with_inserted q)) (with_inserted q) ≡ rest = ap (λ n. drop n (with_inserted q)) same_place ∙ drop_taken (first_place q) q rest place_within in
      let front : opens rest inserted_script ≡ true = refl in
      let cut : drop 450 rest ≡ drop (first_place q) q = refl in
      let before : take (first_place (with_inserted q)) (with_inserted q) ≡ take (first_place q) q = ap (λ n. take n (with_inserted q)) same_place ∙ take_taken (first_place q) q rest place_within in
      cond-true _ _ _ (ap (λ l. opens l inserted_script) behind ∙ front)
      ∙ ap (λ l. l ++ drop 450 (drop (first_place (with_inserted q)) (with_inserted q))) before
      ∙ ap (λ l. take (first_place q) q ++ drop 450 l) behind ∙ ap (λ l. take (first_place q) q ++ l) cut ∙ take_drop (first_place q) q
      ∙ sym (cond-false _ _ _ none)

  pub same_page : (page : Page) → opens_prelude (drop (first_place q) q) ≡ false → IsPage (with_inserted q) page ↔ IsPage q page
  same_page page none =
      let bytes = page_without none in
      let to : IsPage (with_inserted q) page → IsPage q page =
      λ is. subst (λ l. IsPageBehind (mark_len q) l page) bytes (subst (λ n. IsPageBehind n (without_prelude (with_inserted q)) page) same_mark is) in
      let back : IsPage q page → IsPage (with_inserted q) page =
      λ is. subst (λ n. IsPageBehind n (without_prelude (with_inserted q)) page) (sym same_mark) (subst (λ l. IsPageBehind (mark_len q) l page) (sym bytes) is) in
      (to, back)
