-- A number's and a URL's field.
use Rattle.std.proofs.Common.{All, ◌≡◌, ◌≢◌, ℕ, ◌<◌, ◌^◌, Bool, true, false, ◌&&◌, nat_lt, List, [], ◌∷◌, ◌++◌, flat_map, Option, None, Some, IfNone, IfSome, Result, ok_or, inl, decimal, Ok, Err, if◌then◌else◌, refl, sym, ◌∙◌, ap, subst, arith}
use Rattle.std.specs.List.{list_all}
use Rattle.std.specs.Char.{is_ascii}
use Rattle.std.specs.Char.Escape.{encode_utf16}
use Rattle.std.specs.Str.{IsAscii, IsUtf8, all_scalars, bytes_eq}
use lib.Utf8.{scalar}
use Rattle.std.specs.Str.Parse.{digits_value}
use Rattle.std.proofs.lemmas.Bool.{cond-true}
use Rattle.std.proofs.lemmas.Bool.Decides.{nat_tests}
use Rattle.std.proofs.lemmas.Fmt.{decimal_is_IsNumeral}
use Rattle.std.proofs.lemmas.Slice.Eq.{bytes_eq-Decides}
use Rattle.std.proofs.lemmas.Str.{IsUtf8-from_ascii}
use Rattle.std.proofs.lemmas.Str.Ascii.{All-from_ascii, IsAscii-cons, IsAscii-nil, encodes-IsAscii}
use Rattle.std.proofs.lemmas.List.Elements.{All-head, All-tail}
use Rattle.mug_text.specs.Text.{IsText}
use Rattle.mug_text.proofs.Texts.{narrow_units, same_units}
use Rattle.url.specs.Parser.{parse_url}
use Rattle.arrival_file.specs.declared.arrival.ArrivalKind.TheVariants.{Number, Url}
use Rattle.arrival_file.specs.declared.stop.Stop.{Stop}
use Rattle.arrival_file.specs.declared.stop.Stop.TheVariants.{Breaks}
use Rattle.arrival_file.specs.inner.Split.{Gives}
use Rattle.arrival_file.specs.Format.{is_serialised, number, url}

-- ---- numbers

both : (a b : Bool) → a ≡ true → b ≡ true → (a && b) ≡ true
both a b x y = grind arith

pub first_of : (a b : Bool) → (a && b) ≡ true → a ≡ true
first_of a b x = grind arith

second_of : (a b : Bool) → (a && b) ≡ true → b ≡ true
second_of a b x = grind arith

refused : {T : Type 0} (b : Bool) (x y : T) → (b ≡ true → ⊥) → (if b then x else y) ≡ y
refused true x y none = absurd (none refl)
refused false x y none = refl

value_of : (n : ℕ) → n < 2 ^ 64 → digits_value 10 (decimal n) ≡ n
value_of n small = (decimal_is_IsNumeral n small).1

below : (n end : ℕ) → n < end → nat_lt n end ≡ true
below n end less = grind (arith, nat_tests)

pub is_below : (n end : ℕ) → nat_lt n end ≡ true → n < end
is_below n end test = grind (arith, nat_tests)

pub number_there : (field : List ℕ) (end n : ℕ) → end < 2 ^ 64 → n < end → field ≡ decimal n → number end field ≡ Ok n
number_there field end n small less is =
    let small_n : n < 2 ^ 64 = omega arith in
    let value : digits_value 10 field ≡ n = ap (digits_value 10) is ∙ value_of n small_n in
    let spelled : decimal (digits_value 10 field) ≡ field = ap decimal value ∙ sym is in
    cond-true _ _ _ (both _ _ (ap (λ (m : ℕ). nat_lt m end) value ∙ below n end less) ((bytes_eq-Decides _ _).1 spelled)) ∙ ap Ok value

pub number_missing : (field : List ℕ) (end : ℕ) → ((n : ℕ) → n < end → field ≢ decimal n) → number end field ≡ Err (Breaks Number)
number_missing field end none =
    let n = digits_value 10 field in
    let small : Bool = nat_lt n end in
    let spelled : Bool = bytes_eq (decimal n) field in
    refused (small && spelled) (Ok n) (Err (Breaks Number))
    (λ test. none n (is_below n end (first_of small spelled test)) (sym ((bytes_eq-Decides (decimal n) field).0 (second_of small spelled test))))

pub number_given : (field : List ℕ) (end : ℕ) (found : Option ℕ) (result : Result ℕ Stop) → end < 2 ^ 64 → IfNone found ((n : ℕ) → n < end → field ≢ decimal n)
    → IfSome found (λ n. (n < end) × (field ≡ decimal n)) → result ≡ ok_or found (Breaks Number) → Gives (λ n. n) result (number end field)
number_given field end None result small none some is = subst (λ (r : Result ℕ Stop). Gives (λ n. n) r (number end field)) (sym is) (inl (number_missing field end none))
number_given field end (Some n) result small none some is = subst (λ (r : Result ℕ Stop). Gives (λ n. n) r (number end field)) (sym is) (number_there field end n small some.0 some.1)

-- ---- URLs

pub ascii_test : (field : List ℕ) → IsAscii field → list_all is_ascii field ≡ true
ascii_test field ascii = all_of field (All-from_ascii field ascii)
  where
    all_of : (bytes : List ℕ) → All (λ b. b < 128) bytes → list_all is_ascii bytes ≡ true
    all_of [] small = refl
    all_of (b ∷ bytes) small = both _ _ (below b 128 (All-head (λ x. x < 128) b bytes small)) (all_of bytes (All-tail (λ x. x < 128) b bytes small))

by_ascii_test : (field : List ℕ) → list_all is_ascii field ≡ true → IsAscii field
by_ascii_test [] test = IsAscii-nil
by_ascii_test (b ∷ field) test = IsAscii-cons b field (is_below b 128 (first_of _ _ test)) (by_ascii_test field (second_of _ _ test))

pub no_text : (field : List ℕ) → (IsUtf8 field → ⊥) → url field ≡ Err (Breaks Url)
no_text field none =
    let ascii : Bool = list_all is_ascii field in
    let same : Bool = is_serialised field (parse_url None field) in
    refused (ascii && same) (Ok field) (Err (Breaks Url)) (λ test. none (IsUtf8-from_ascii field (by_ascii_test field (first_of ascii same test))))

pub url_there : (field : List ℕ) → IsAscii field → is_serialised field (parse_url None field) ≡ true → url field ≡ Ok field
url_there field ascii test = cond-true _ _ _ (both _ _ (ascii_test field ascii) test)

one_scalar : (b : ℕ) → b < 128 → scalar b ≡ true
one_scalar b small = grind (arith, nat_tests)

scalars : (bytes : List ℕ) → All (λ b. b < 128) bytes → all_scalars bytes ≡ true
scalars [] small = refl
scalars (b ∷ bytes) small = both _ _ (one_scalar b (All-head (λ x. x < 128) b bytes small)) (scalars bytes (All-tail (λ x. x < 128) b bytes small))

units : (bytes : List ℕ) → All (λ b. b < 128) bytes → bytes ≡ flat_map encode_utf16 bytes
units [] small = refl
units (b ∷ bytes) small =
    let less = All-head (λ x. x < 128) b bytes small in
    let one : encode_utf16 b ≡ b ∷ [] = narrow_units b (omega arith) in
    ap (λ (l : List ℕ). b ∷ l) (units bytes (All-tail (λ x. x < 128) b bytes small)) ∙ ap (λ (l : List ℕ). l ++ flat_map encode_utf16 bytes) (sym one)

pub ascii_text : (field : List ℕ) → IsAscii field → IsText field field
ascii_text field ascii = record {
  points = field;
  scalars = scalars field (All-from_ascii field ascii);
  bytes_are = sym (encodes-IsAscii field ascii);
  units_are = units field (All-from_ascii field ascii);
}

pub same_text : (field base : List ℕ) → IsAscii field → IsText field base → field ≡ base
same_text field base ascii text = same_units (ascii_text field ascii) text
