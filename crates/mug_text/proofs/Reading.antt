-- What the readers of std say, in the words of texts.
use Rattle.std.proofs.Common.{◌≡◌, ℕ, ◌+◌, ⊎_elim, List, [], ◌∷◌, ◌++◌, length, take, drop, Some, None, refl, sym, ap, subst, ◌∙◌, arith, take-add, length-drop}
use Rattle.std.specs.List.{flat_map}
use Rattle.std.specs.Iterator.{DrainsIf}
use Rattle.std.specs.declared.str.EncodeUtf16.{EncodeUtf16}
use Rattle.std.specs.Str.{chars, IsUtf8, IsValidUpTo}
use Rattle.std.specs.Str.Iter.{encode_utf16_rest, encode_utf16_pending, encode_utf16_steps}
use Rattle.std.specs.Char.{IsScalar, encode_utf8}
use Rattle.std.specs.Char.Escape.{encode_utf16}
use Rattle.std.proofs.lemmas.Iterator.{items_from_drains}
use Rattle.std.proofs.lemmas.Iterator.Splits.{YieldsList-from_shown_while}
use Rattle.std.proofs.lemmas.Str.{chars-nil, chars_past_char, chars_from_encodes, IsUtf8-past_char, IsUtf8-append, IsUtf8-encode, len_utf8_bounds, length-encode}
use Rattle.std.proofs.lemmas.List.{take-append-drop, take_at, length-take-le, map-id, nil_from_length}
use Rattle.mug_text.specs.Text.{IsText, StopsAt}

-- the units that are to come
abbrev units_left : EncodeUtf16 → List ℕ
units_left s = encode_utf16_pending s ++ flat_map encode_utf16 (chars (encode_utf16_rest s))

none_left : (s t : EncodeUtf16) → IsUtf8 (encode_utf16_rest s) → encode_utf16_steps s None t → length (units_left s) ≡ 0
none_left s t is step =
    let empty = nil_from_length (encode_utf16_rest s) step.1 in
    ap (λ l. length (l ++ flat_map encode_utf16 (chars (encode_utf16_rest s)))) step.0 ∙ ap (λ l. length (flat_map encode_utf16 (chars l))) empty ∙ ap (λ l. length (flat_map encode_utf16 l)) chars-nil

one_left : (s : EncodeUtf16) (x : ℕ) (t : EncodeUtf16) → IsUtf8 (encode_utf16_rest s) → encode_utf16_steps s (Some x) t → IsUtf8 (encode_utf16_rest t) × (units_left s ≡ x ∷ units_left t)
one_left s x t is step = ⊎_elim second first step
  where
    second : (encode_utf16_pending s ≡ x ∷ []) × (encode_utf16_pending t ≡ []) × (encode_utf16_rest t ≡ encode_utf16_rest s) → IsUtf8 (encode_utf16_rest t) × (units_left s ≡ x ∷ units_left t)
    second h = (
      subst IsUtf8 (sym h.2) is,
      ap (λ l. l ++ flat_map encode_utf16 (chars (encode_utf16_rest s))) h.0 ∙ λ i. x ∷ (sym h.1 i ++ flat_map encode_utf16 (chars (sym h.2 i))),
    )

    first : (encode_utf16_pending s ≡ []) × ((c : ℕ) × (encode_utf16_rest s ≡ encode_utf8 c ++ encode_utf16_rest t) × (encode_utf16 c ≡ x ∷ encode_utf16_pending t)) → IsUtf8 (encode_utf16_rest t) × (units_left s ≡ x ∷ units_left t)
    first h =
        let c : ℕ = h.1.0 in (
          IsUtf8-past_char _ _ c is h.1.1,
          ap (λ l. l ++ flat_map encode_utf16 (chars (encode_utf16_rest s))) h.0 ∙ ap (flat_map encode_utf16) (chars_past_char _ _ c is h.1.1) ∙ ap (λ l. l ++ flat_map encode_utf16 (chars (encode_utf16_rest t))) h.1.2,
        )

-- what `collect` gathers from them
pub text_from_collected : (bytes units : List ℕ) (s : EncodeUtf16) → IsUtf8 bytes → encode_utf16_rest s ≡ bytes → encode_utf16_pending s ≡ []
    → (xs : List ℕ) × DrainsIf encode_utf16_steps (Unit {0}) s xs × (units ≡ xs) → IsText bytes units
text_from_collected bytes units s is rest pending ran =
    let all = items_from_drains ran.0 ran.1 (YieldsList-from_shown_while encode_utf16_steps (λ x. x) units_left (λ t. IsUtf8 (encode_utf16_rest t)) none_left one_left s (subst IsUtf8 (sym rest) is)) in
    let same = chars_from_encodes is.0 bytes is is.1.1 in
    record {
      points = is.0;
      scalars = is.1.0;
      bytes_are = sym is.1.1;
      units_are = ran.2 ∙ sym (map-id ran.0) ∙ all ∙ (λ i. pending i ++ flat_map encode_utf16 (chars (rest i))) ∙ ap (flat_map encode_utf16) (sym same);
    }

-- one more character than the longest valid front would be valid
longer : (bytes : List ℕ) (n c : ℕ) (rest : List ℕ) → IsUtf8 (take n bytes) → IsScalar c → drop n bytes ≡ encode_utf8 c ++ rest → IsUtf8 (take (n + length (encode_utf8 c)) bytes)
longer bytes n c rest front is same =
    let next : take (length (encode_utf8 c)) (drop n bytes) ≡ encode_utf8 c = ap (take (length (encode_utf8 c))) same ∙ take_at (encode_utf8 c) rest _ refl in
    subst IsUtf8 (sym (take-add n (length (encode_utf8 c)) bytes ∙ ap (λ l. take n bytes ++ l) next)) (IsUtf8-append (take n bytes) (encode_utf8 c) front (IsUtf8-encode c is))

pub stops_from_valid : {bytes : List ℕ} {n : ℕ} → IsValidUpTo bytes n → StopsAt bytes n
stops_from_valid {bytes} {n} valid = record {
  points = valid.front.0;
  rest = drop n bytes;
  scalars = valid.front.1.0;
  split = sym (take-append-drop n bytes) ∙ ap (λ l. l ++ drop n bytes) (sym valid.front.1.1);
  place = sym (ap length valid.front.1.1 ∙ length-take-le n bytes (omega (arith, valid.short)));
  more = λ none. absurd (omega (arith, valid.short, length-drop n bytes, ap length none));
  none = λ c rest is same. valid.longest (n + length (encode_utf8 c)) (omega (arith, length-encode c, (len_utf8_bounds c).0)) (longer bytes n c rest valid.front is same);
}
