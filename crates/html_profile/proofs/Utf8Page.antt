-- A page that is UTF-8 is so behind its byte order mark, and without the inserted script.
use Rattle.std.proofs.Common.{◌≡◌, ℕ, zero, suc, ◌+◌, ◌<◌, ◌≤◌, ⊎_elim, Bool, true, false, List, [], ◌∷◌, ◌++◌, length, take, drop, get_or, nat_lt, cond, add-zero, IsUtf8, IsCharBoundary, encode_utf8, encode_utf8_all, refl, sym, ap, subst, ◌∙◌, arith}
use Rattle.std.proofs.lemmas.Bool.{and_parts, cond_both, ltb-true}
use Rattle.std.proofs.lemmas.List.{get_or-drop, length-drop, drop_all}
use Rattle.std.proofs.lemmas.Str.{IsUtf8-append, IsUtf8-take, IsUtf8-drop, IsCharBoundary-start, IsCharBoundary-after_ascii, cons_from_encodes}
use Rattle.std.specs.Str.{all_scalars}
use lib.Utf8.{scalar, encode}
use Rattle.html_profile.specs.Marks.{opens, place, from}
use Rattle.html_profile.specs.FirstPlace.{mark_len, opens_doctype, first_place}
use Rattle.html_profile.specs.InsertedScript.{inserted_script}
use Rattle.html_profile.specs.Page.{opens_prelude, without_prelude}
use Rattle.html_profile.specs.declared.mark.Mark.TheVariants.{TagEnd, Ink}
use Rattle.html_profile.proofs.Utf8Parts.{opens_same, opens_at, there, behind_opening, placed, stands_low}

abbrev pub byte_order_mark : List ℕ
byte_order_mark = 0xEF ∷ 0xBB ∷ 0xBF ∷ []

mark_bytes : encode_utf8 0xFEFF ≡ byte_order_mark
unfolding encode
mark_bytes = refl

pub take_drop : (n : ℕ) (bs : List ℕ) → take n bs ++ drop n bs ≡ bs
take_drop zero bs = refl
take_drop (suc n) [] = refl
take_drop (suc n) (b ∷ bs) = ap (λ l. b ∷ l) (take_drop n bs)

pub drop_add : (m k : ℕ) (bs : List ℕ) → drop (m + k) bs ≡ drop k (drop m bs)
drop_add zero k bs = ap (λ n. drop n bs) (omega arith)
drop_add (suc m) k [] = drop_all (suc m + k) [] (omega arith) ∙ sym (drop_all k [] (omega arith))
drop_add (suc m) k (b ∷ bs) = let e : suc m + k ≡ suc (m + k) = omega arith in ap (λ n. drop n (b ∷ bs)) e ∙ drop_add m k bs

pub drop_within : (m k : ℕ) (bs rest : List ℕ) → m ≤ length bs → drop m (take (m + k) bs ++ rest) ≡ take k (drop m bs) ++ rest
drop_within zero k bs rest within = ap (λ n. take n bs ++ rest) (omega arith)
drop_within (suc m) k [] rest within = absurd (omega arith)
drop_within (suc m) k (b ∷ bs) rest within =
    let e : suc m + k ≡ suc (m + k) = omega arith in
    ap (λ n. drop (suc m) (take n (b ∷ bs) ++ rest)) e ∙ drop_within m k bs rest (omega arith)

-- ---- behind the byte order mark

marked : (bs : List ℕ) → IsUtf8 bs → opens bs byte_order_mark ≡ true → IsUtf8 (drop 3 bs)
marked bs is front =
    let split : encode_utf8_all is.0 ≡ encode_utf8 0xFEFF ++ drop 3 bs =
    is.1.1 ∙ sym (take_drop 3 bs) ∙ ap (λ l. l ++ drop 3 bs) (sym (opens_same bs byte_order_mark front)) ∙ ap (λ l. l ++ drop 3 bs) (sym mark_bytes) in
    let rest = cons_from_encodes is.0 (drop 3 bs) 0xFEFF split in
    let scalars : all_scalars (0xFEFF ∷ rest.0) ≡ true = ap all_scalars (sym rest.1) ∙ is.1.0 in
    (rest.0, ((and_parts (scalar 0xFEFF) (all_scalars rest.0) scalars).1, rest.2))

pub behind_mark : (bs : List ℕ) → IsUtf8 bs → IsUtf8 (drop (mark_len bs) bs)
behind_mark bs is = cond_both (opens bs byte_order_mark) 3 0 (λ n. IsUtf8 (drop n bs)) (λ front. marked bs is front) (λ _. is)

pub mark_within : (bs : List ℕ) → mark_len bs ≤ length bs
mark_within bs =
    cond_both (opens bs byte_order_mark) 3 0 (λ n. n ≤ length bs)
    (λ front. let at = opens_at bs byte_order_mark 2 front (omega arith) in let inside = there bs 2 (omega arith) in omega arith)
    (λ _. omega arith)

-- ---- at the first place

-- how far the doctype reaches
abbrev pub doctype_len : List ℕ → ℕ
doctype_len text = cond (opens_doctype (from Ink text)) (place Ink text + place TagEnd (from Ink text) + 1) 0

pub place_split : (bs : List ℕ) → first_place bs ≡ mark_len bs + doctype_len (drop (mark_len bs) bs)
place_split bs = by_test (opens_doctype (from Ink (drop (mark_len bs) bs)))
  where
    by_test : (b : Bool) → cond b (mark_len bs + place Ink (drop (mark_len bs) bs) + place TagEnd (from Ink (drop (mark_len bs) bs)) + 1) (mark_len bs)
        ≡ mark_len bs + cond b (place Ink (drop (mark_len bs) bs) + place TagEnd (from Ink (drop (mark_len bs) bs)) + 1) 0
    by_test true = omega arith
    by_test false = omega arith

doctype_cut : (text : List ℕ) → IsUtf8 text → IsCharBoundary text (doctype_len text)
doctype_cut text is =
    cond_both (opens_doctype (from Ink text)) (place Ink text + place TagEnd (from Ink text) + 1) 0 (IsCharBoundary text)
    (λ doctype.
    let t = from Ink text in
    let i = place Ink text in
    let p = place TagEnd t in
    let inside : p < length t = ltb-true p (length t) (and_parts _ (nat_lt p (length t)) doctype).1 in
    let long = length-drop i text in
    ⊎_elim
    (λ end. absurd (omega arith))
    (λ found.
    let low : get_or (drop p t) 0 0 < 128 = stands_low TagEnd (drop p t) tt found.1 in
    let at : get_or (drop p t) 0 0 ≡ get_or text (i + p) 0 =
    get_or-drop p t 0 0 ∙ ap (λ n. get_or t n 0) (add-zero p) ∙ get_or-drop i text p 0 in
    IsCharBoundary-after_ascii text (i + p) is (omega arith) (subst (λ b. b < 128) at low))
    (placed TagEnd t))
    (λ _. IsCharBoundary-start text is)

-- the page without the inserted script, behind the byte order mark
pub page_utf8 : (bs : List ℕ) → IsUtf8 bs → IsUtf8 (drop (mark_len bs) (without_prelude bs))
unfolding opens_prelude
page_utf8 bs is =
    let m = mark_len bs in
    let text = drop m bs in
    let k = doctype_len text in
    let text_is = behind_mark bs is in
    let cut = doctype_cut text text_is in
    let at : first_place bs ≡ m + k = place_split bs in
    let rest : drop (first_place bs) bs ≡ drop k text = ap (λ n. drop n bs) at ∙ drop_add m k bs in
    let rest_is : IsUtf8 (drop (first_place bs) bs) = subst IsUtf8 (sym rest) (IsUtf8-drop text k text_is cut) in
    let behind = drop 450 (drop (first_place bs) bs) in
    cond_both (opens (drop (first_place bs) bs) inserted_script) (take (first_place bs) bs ++ behind) bs (λ l. IsUtf8 (drop m l))
    (λ front.
    let behind_is : IsUtf8 behind = behind_opening (drop (first_place bs) bs) inserted_script 449 10 rest_is front (omega arith) refl (omega arith) (omega arith) in
    let same : drop m (take (first_place bs) bs ++ behind) ≡ take k text ++ behind = ap (λ n. drop m (take n bs ++ behind)) at ∙ drop_within m k bs behind (mark_within bs) in
    subst IsUtf8 (sym same) (IsUtf8-append (take k text) behind (IsUtf8-take text k text_is cut) behind_is))
    (λ _. text_is)
