-- The parts of a page that is UTF-8, up to its marks, are UTF-8, and so is what they stand for.
use Rattle.std.proofs.Common.{◌≡◌, ℕ, zero, suc, ◌+◌, ◌-◌, ◌<◌, ◌≤◌, nat_lt, ◌⊎◌, inl, inr, ⊎_elim, Bool, true, false, cond, ◌&&◌, ◌||◌, ◌==◌, not, List, [], ◌∷◌, ◌++◌, length, take, drop, add-one, get_or, add-zero, ltb, ◌/◌, IfSome, Option, Some, None, IsUtf8, IsCharBoundary, encode_utf8, encode_utf8_all, codes, option_to_list, refl, sym, ap, subst, ◌∙◌, arith, length-append}
use Rattle.std.proofs.lemmas.Bool.{and_parts, cond_both, cond-true, cond-false, cases_lt, cases_Bool, eqb-true, ne_eqb, false≢true, le-ltb, leb-true}
use Rattle.std.proofs.lemmas.List.{get_or-drop, get_or-take, get_or_past, length-drop}
use Rattle.std.proofs.lemmas.Str.{IsUtf8-append, IsUtf8-nil, IsUtf8-take, IsUtf8-drop, IsUtf8-encode, IsUtf8-from_ascii, IsCharBoundary-end, IsCharBoundary-before_ascii, IsCharBoundary-after_ascii, encode_ascii, length-encode, len_utf8_bounds}
use Rattle.std.proofs.lemmas.Str.Ascii.{IsAscii-nil, IsAscii-cons, lowercase_ascii, lowercase_is}
use Rattle.std.specs.Str.{all_scalars}
use Rattle.std.specs.Int.{is_in_range}
use Rattle.std.specs.Char.{to_ascii_lowercase, is_ascii_whitespace}
use Rattle.std.specs.Cmp.Lexicographic.{bytes_decides}
use lib.Utf8.{scalar, encode, next}
use Rattle.html_profile.specs.Marks.{lower, opens, begins, ends_name, stands, place, before, from}
use Rattle.html_profile.specs.Plain.{line_byte, lines, digits_of, value_of, is_character, numeric, reference, written, taken, resolved, plain}
use Rattle.html_profile.specs.declared.mark.Mark.{Mark}
use Rattle.html_profile.specs.declared.mark.Mark.TheVariants.{CommentEnd, TagEnd, Markup, NameEnd, AttributeEnd, ValueEnd, Quote, RawEnd, Ink, Solid}
use Rattle.html_profile.proofs.Resolving.{skipped}

-- ---- one byte in ASCII

ascii_one : (b : ℕ) → b < 128 → IsUtf8 (b ∷ [])
ascii_one b low = IsUtf8-from_ascii (b ∷ []) (IsAscii-cons b [] low IsAscii-nil)

ascii_cons : (b : ℕ) (bs : List ℕ) → b < 128 → IsUtf8 bs → IsUtf8 (b ∷ bs)
ascii_cons b bs low is = IsUtf8-append (b ∷ []) bs (ascii_one b low) is

-- what stands behind a byte in ASCII
pub behind_byte : (text : List ℕ) (i : ℕ) → IsUtf8 text → i < length text → get_or text i 0 < 128 → IsUtf8 (drop (i + 1) text)
behind_byte text i is inside low = IsUtf8-drop text (i + 1) is (IsCharBoundary-after_ascii text i is inside low)

pub tail : (c : ℕ) (rest : List ℕ) → IsUtf8 (c ∷ rest) → c < 128 → IsUtf8 rest
tail c rest is low = behind_byte (c ∷ rest) 0 is (omega arith) low

-- ---- bytes that stand at the front

pub opens_same : (text bytes : List ℕ) → opens text bytes ≡ true → bytes ≡ take (length bytes) text
opens_same text bytes is = (bytes_decides bytes (take (length bytes) text)).0 is

pub opens_at : (text bytes : List ℕ) (i : ℕ) → opens text bytes ≡ true → i < length bytes → get_or text i 0 ≡ get_or bytes i 0
opens_at text bytes i is inside = sym (get_or-take (length bytes) text i 0 inside) ∙ ap (λ l. get_or l i 0) (sym (opens_same text bytes is))

-- a byte other than 0 is there
pub there : (text : List ℕ) (i : ℕ) → 0 < get_or text i 0 → i < length text
there text i some = ⊎_elim (λ inside. inside) (λ past. absurd (omega (arith, get_or_past text i 0 past))) (cases_lt i (length text))

-- what stands behind bytes at the front, the last of which is in ASCII
pub behind_opening : (text bytes : List ℕ) (i b : ℕ) → IsUtf8 text → opens text bytes ≡ true → i < length bytes → get_or bytes i 0 ≡ b → 0 < b → b < 128 → IsUtf8 (drop (i + 1) text)
behind_opening text bytes i b is front inside at some low =
    let here = opens_at text bytes i front inside ∙ at in
    behind_byte text i is (there text i (omega arith)) (omega arith)

-- ---- marks

-- a mark that begins with a byte in ASCII
abbrev pub BeginsAscii : Mark → Type 0
BeginsAscii CommentEnd = Unit {0}
BeginsAscii TagEnd = Unit {0}
BeginsAscii Markup = Unit {0}
BeginsAscii NameEnd = Unit {0}
BeginsAscii AttributeEnd = Unit {0}
BeginsAscii ValueEnd = Unit {0}
BeginsAscii (Quote quote) = quote < 128
BeginsAscii (RawEnd raw) = Unit {0}
BeginsAscii Ink = ⊥
BeginsAscii Solid = ⊥

or_cases : (a b : Bool) → (a || b) ≡ true → (a ≡ true) ⊎ (b ≡ true)
or_cases true b is = inl refl
or_cases false b is = inr is

white_low : (c : ℕ) → is_ascii_whitespace c ≡ true → c < 128
white_low c is =
    ⊎_elim
    (λ first. ⊎_elim (λ a. omega (arith, leb-true c 10 (and_parts _ _ a).1)) (λ b. omega (arith, leb-true c 13 (and_parts _ _ b).1)) (or_cases (is_in_range 9 10 c) (is_in_range 12 13 c) first))
    (λ last. omega (arith, leb-true c 32 (and_parts _ _ last).1))
    (or_cases (is_in_range 9 10 c || is_in_range 12 13 c) (is_in_range 32 32 c) is)

ends_name_low : (c : ℕ) → ends_name c ≡ true → c < 128
ends_name_low c is =
    ⊎_elim (λ w. white_low c w) (λ o. ⊎_elim (λ e. omega (arith, eqb-true c 47 e)) (λ e. omega (arith, eqb-true c 62 e)) (or_cases (c == 47) (c == 62) o)) (or_cases (is_ascii_whitespace c) _ is)

pub stands_low : (mark : Mark) (text : List ℕ) → BeginsAscii mark → stands mark text ≡ true → get_or text 0 0 < 128
stands_low CommentEnd text ascii is = omega (arith, opens_at text (codes "-->") 0 is (omega arith))
stands_low TagEnd [] ascii is = absurd (false≢true is)
stands_low TagEnd (c ∷ rest) ascii is = omega (arith, eqb-true c 62 is)
stands_low Markup [] ascii is = absurd (false≢true is)
stands_low Markup (c ∷ rest) ascii is = omega (arith, eqb-true c 60 (and_parts (c == 60) _ is).0)
stands_low NameEnd [] ascii is = absurd (false≢true is)
stands_low NameEnd (c ∷ rest) ascii is = ends_name_low c is
stands_low AttributeEnd [] ascii is = absurd (false≢true is)
stands_low AttributeEnd (c ∷ rest) ascii is = ⊎_elim (λ e. ends_name_low c e) (λ e. omega (arith, eqb-true c 61 e)) (or_cases (ends_name c) (c == 61) is)
stands_low ValueEnd [] ascii is = absurd (false≢true is)
stands_low ValueEnd (c ∷ rest) ascii is = ⊎_elim (λ w. white_low c w) (λ e. omega (arith, eqb-true c 62 e)) (or_cases (is_ascii_whitespace c) (c == 62) is)
stands_low (Quote quote) [] ascii is = absurd (false≢true is)
stands_low (Quote quote) (c ∷ rest) ascii is = omega (arith, eqb-true c quote is)
stands_low (RawEnd raw) text ascii is = omega (arith, opens_at text (codes "</") 0 (and_parts _ _ is).0 (omega arith))
stands_low Ink text ascii is = absurd ascii
stands_low Solid text ascii is = absurd ascii

-- the mark's place is the end, or it stands there
abbrev pub Placed : Mark → List ℕ → Type 0
Placed mark text = (place mark text ≡ length text) ⊎ ((place mark text < length text) × (stands mark (drop (place mark text) text) ≡ true))

step_drop : (c : ℕ) (rest : List ℕ) (n : ℕ) → drop (n + 1) (c ∷ rest) ≡ drop n rest
step_drop c rest n = rw add-one refl

pub placed : (mark : Mark) (text : List ℕ) → Placed mark text
placed mark [] = inl refl
placed mark (c ∷ rest) = ⊎_elim here (later (placed mark rest)) (cases_Bool (stands mark (c ∷ rest)))
  where
    here : stands mark (c ∷ rest) ≡ true → Placed mark (c ∷ rest)
    here is =
        let at : place mark (c ∷ rest) ≡ 0 = cond-true _ _ _ is in
        inr (omega arith, ap (λ n. stands mark (drop n (c ∷ rest))) at ∙ is)

    later : Placed mark rest → stands mark (c ∷ rest) ≡ false → Placed mark (c ∷ rest)
    later more is =
        let at : place mark (c ∷ rest) ≡ place mark rest + 1 = cond-false _ _ _ is in
        ⊎_elim
        (λ end. inl (omega arith))
        (λ found.
        let within = found.0 in
        inr (omega arith, ap (λ n. stands mark (drop n (c ∷ rest))) at ∙ ap (stands mark) (step_drop c rest (place mark rest)) ∙ found.1))
        more

-- a page that is UTF-8 can be cut at a mark
pub cut : (mark : Mark) (text : List ℕ) → BeginsAscii mark → IsUtf8 text → IsCharBoundary text (place mark text)
cut mark text ascii is =
    ⊎_elim
    (λ end. subst (IsCharBoundary text) (sym end) (IsCharBoundary-end text))
    (λ found.
    let at : get_or (drop (place mark text) text) 0 0 ≡ get_or text (place mark text) 0 = get_or-drop (place mark text) text 0 0 ∙ ap (λ n. get_or text n 0) (add-zero (place mark text)) in
    IsCharBoundary-before_ascii text (place mark text) found.0 (subst (λ b. b < 128) at (stands_low mark (drop (place mark text) text) ascii found.1)))
    (placed mark text)

pub before_mark : (mark : Mark) (text : List ℕ) → BeginsAscii mark → IsUtf8 text → IsUtf8 (before mark text)
before_mark mark text ascii is = IsUtf8-take text (place mark text) is (cut mark text ascii is)

pub from_mark : (mark : Mark) (text : List ℕ) → BeginsAscii mark → IsUtf8 text → IsUtf8 (from mark text)
from_mark mark text ascii is = IsUtf8-drop text (place mark text) is (cut mark text ascii is)

-- white space, and `/`, are in ASCII
skips : (mark : Mark) → ((c : ℕ) (rest : List ℕ) → stands mark (c ∷ rest) ≡ false → c < 128) → (text : List ℕ) → IsUtf8 text → IsUtf8 (from mark text)
skips mark low [] is = is
skips mark low (c ∷ rest) is =
    ⊎_elim
    (λ here. subst IsUtf8 (ap (λ n. drop n (c ∷ rest)) (sym (cond-true _ 0 (place mark rest + 1) here))) is)
    (λ other. subst IsUtf8 (sym (ap (λ n. drop n (c ∷ rest)) (cond-false _ 0 (place mark rest + 1) other) ∙ step_drop c rest (place mark rest))) (skips mark low rest (tail c rest is (low c rest other))))
    (cases_Bool (stands mark (c ∷ rest)))

not_false : (b : Bool) → not b ≡ false → b ≡ true
not_false true is = refl
not_false false is = sym is

pub from_ink : (text : List ℕ) → IsUtf8 text → IsUtf8 (from Ink text)
from_ink text is = skips Ink (λ c rest other. white_low c (not_false _ other)) text is

pub from_solid : (text : List ℕ) → IsUtf8 text → IsUtf8 (from Solid text)
from_solid text is =
    skips Solid (λ c rest other. ⊎_elim (λ w. white_low c w) (λ e. omega (arith, eqb-true c 47 e)) (or_cases (is_ascii_whitespace c) (c == 47) (not_false _ other))) text is

-- ---- what parts stand for

-- no byte of these is in ASCII
abbrev AllHigh : List ℕ → Type 0
AllHigh [] = Unit {0}
AllHigh (b ∷ bs) = (128 ≤ b) × AllHigh bs

abbrev two : ℕ → List ℕ
two c = (192 + c / 64) ∷ next c ∷ []

abbrev three : ℕ → List ℕ
three c = (224 + c / 4096) ∷ next (c / 64) ∷ next c ∷ []

abbrev four : ℕ → List ℕ
four c = (240 + c / 262144) ∷ next (c / 4096) ∷ next (c / 64) ∷ next c ∷ []

two_high : (c : ℕ) → AllHigh (two c)
two_high c = (omega arith, (omega arith, tt))

three_high : (c : ℕ) → AllHigh (three c)
three_high c = (omega arith, (omega arith, (omega arith, tt)))

four_high : (c : ℕ) → AllHigh (four c)
four_high c = (omega arith, (omega arith, (omega arith, (omega arith, tt))))

high : (c : ℕ) → 128 ≤ c → AllHigh (encode_utf8 c)
unfolding encode
high c least =
    subst AllHigh (sym (cond-false (ltb c 128) (c ∷ []) (cond (ltb c 2048) (two c) (cond (ltb c 65536) (three c) (four c))) (le-ltb c 128 least)))
    (cond_both (ltb c 2048) (two c) (cond (ltb c 65536) (three c) (four c)) AllHigh (λ _. two_high c) (λ _. cond_both (ltb c 65536) (three c) (four c) AllHigh (λ _. three_high c) (λ _. four_high c)))

lower_high : (bs rest : List ℕ) → AllHigh bs → lower (bs ++ rest) ≡ bs ++ lower rest
lower_high [] rest all = refl
lower_high (b ∷ bs) rest all =
    let least = all.0 in
    let same : to_ascii_lowercase b ≡ b = (lowercase_is b).2 (omega arith) in
    λ i. same i ∷ lower_high bs rest all.1 i

lines_high : (bs rest : List ℕ) → AllHigh bs → lines (bs ++ rest) ≡ bs ++ lines rest
lines_high [] rest all = refl
lines_high (b ∷ bs) rest all =
    let least = all.0 in
    ap (λ o. option_to_list o ++ lines (bs ++ rest)) (cond-false (b == 13) _ _ (ne_eqb b 13 (λ e. omega arith))) ∙ ap (λ l. b ∷ l) (lines_high bs rest all.1)

-- no reference begins with another byte than `&`
no_reference : (b : ℕ) (rest : List ℕ) → 128 ≤ b → reference (b ∷ rest) ≡ None
no_reference b rest least = let e : (38 == b) ≡ false = ne_eqb 38 b (λ is. omega arith) in rw e refl

resolved_high : (bs rest : List ℕ) → AllHigh bs → resolved 0 (bs ++ rest) ≡ bs ++ resolved 0 rest
resolved_high [] rest all = refl
resolved_high (b ∷ bs) rest all =
    ap (λ o. written b o ++ resolved (taken o) (bs ++ rest)) (no_reference b (bs ++ rest) all.0) ∙ ap (λ l. b ∷ l) (resolved_high bs rest all.1)

-- a change that keeps characters above ASCII, and makes text of a byte in ASCII, makes text of text
module _ (change : List ℕ → List ℕ) (empty : IsUtf8 (change [])) (keeps : (bs rest : List ℕ) → AllHigh bs → change (bs ++ rest) ≡ bs ++ change rest)
    (low : (c : ℕ) (rest : List ℕ) → c < 128 → IsUtf8 (change rest) → IsUtf8 (change (c ∷ rest))) where
  of_points : (cs : List ℕ) → all_scalars cs ≡ true → IsUtf8 (change (encode_utf8_all cs))
  of_points [] are = empty
  of_points (c ∷ cs) are =
      let both = and_parts (scalar c) (all_scalars cs) are in
      let rest = of_points cs both.1 in
      ⊎_elim
      (λ small. subst (λ l. IsUtf8 (change (l ++ encode_utf8_all cs))) (sym (encode_ascii c small)) (low c (encode_utf8_all cs) small rest))
      (λ large. subst IsUtf8 (sym (keeps (encode_utf8 c) (encode_utf8_all cs) (high c large))) (IsUtf8-append (encode_utf8 c) _ (IsUtf8-encode c both.0) rest))
      (cases_lt c 128)

  of_text : (text : List ℕ) → IsUtf8 text → IsUtf8 (change text)
  of_text text is = subst (λ l. IsUtf8 (change l)) is.1.1 (of_points is.0 is.1.0)

pub lowered : (text : List ℕ) → IsUtf8 text → IsUtf8 (lower text)
lowered text is = of_text lower IsUtf8-nil lower_high (λ c rest small rest_is. ascii_cons (to_ascii_lowercase c) (lower rest) (lowercase_ascii c small) rest_is) text is

line_low : (c : ℕ) (rest : List ℕ) → c < 128 → IsUtf8 (option_to_list (line_byte c rest))
line_low c rest small =
    let P : Option ℕ → Type 0 = λ o. IsUtf8 (option_to_list o) in
    cond_both (c == 13) _ _ P (λ _. cond_both (begins (λ d. d == 10) rest) _ _ P (λ _. IsUtf8-nil) (λ _. ascii_one 10 (omega arith))) (λ _. ascii_one c small)

pub ended : (text : List ℕ) → IsUtf8 text → IsUtf8 (lines text)
ended text is = of_text lines IsUtf8-nil lines_high (λ c rest small rest_is. IsUtf8-append (option_to_list (line_byte c rest)) (lines rest) (line_low c rest small) rest_is) text is

-- ---- references

-- a reference is a scalar value, and what stands behind it is UTF-8
abbrev Refers : List ℕ → ℕ × ℕ → Type 0
Refers text found = (scalar found.0 ≡ true) × (0 < found.1) × IsUtf8 (drop found.1 text)

begins_is : (b : ℕ) (text : List ℕ) → begins (λ d. d == b) text ≡ true → (get_or text 0 0 ≡ b) × (0 < length text)
begins_is b [] is = absurd (false≢true is)
begins_is b (d ∷ rest) is = (eqb-true d b is, omega arith)

numeric_refers : (base start : ℕ) (text : List ℕ) → IsUtf8 text → IfSome (numeric base start text) (Refers text)
numeric_refers base start text is =
    let digits = digits_of base (drop start text) in
    let c = value_of base digits in
    let n = start + length digits in
    cond_both (is_character c && begins (λ d. d == 59) (drop n text)) (Some (c, n + 1)) None (λ o. IfSome o (Refers text))
    (λ ok.
    let both = and_parts (is_character c) (begins (λ d. d == 59) (drop n text)) ok in
    let semicolon = begins_is 59 (drop n text) both.1 in
    let at : get_or (drop n text) 0 0 ≡ get_or text n 0 = get_or-drop n text 0 0 ∙ ap (λ k. get_or text k 0) (add-zero n) in
    let byte : get_or text n 0 ≡ 59 = sym at ∙ semicolon.0 in
    ((and_parts (nat_lt 0 c) (scalar c) both.0).1, omega arith, behind_byte text n is (there text n (omega arith)) (omega arith)))
    (λ _. tt)

named_refers : (text bytes : List ℕ) (c n : ℕ) → IsUtf8 text → opens text bytes ≡ true → scalar c ≡ true → n < length bytes → get_or bytes n 0 ≡ 59 → Refers text (c, n + 1)
named_refers text bytes c n is front ok inside at = (ok, omega arith, behind_opening text bytes n 59 is front inside at (omega arith) (omega arith))

reference_refers : (text : List ℕ) → IsUtf8 text → IfSome (reference text) (Refers text)
reference_refers text is =
    let P : Option (ℕ × ℕ) → Type 0 = λ o. IfSome o (Refers text) in
    cond_both (opens text (codes "&amp;")) _ _ P (λ front. named_refers text (codes "&amp;") 38 4 is front refl (omega arith) refl) (λ _.
    cond_both (opens text (codes "&lt;")) _ _ P (λ front. named_refers text (codes "&lt;") 60 3 is front refl (omega arith) refl) (λ _.
    cond_both (opens text (codes "&gt;")) _ _ P (λ front. named_refers text (codes "&gt;") 62 3 is front refl (omega arith) refl) (λ _.
    cond_both (opens text (codes "&quot;")) _ _ P (λ front. named_refers text (codes "&quot;") 34 5 is front refl (omega arith) refl) (λ _.
    cond_both (opens text (codes "&apos;")) _ _ P (λ front. named_refers text (codes "&apos;") 39 5 is front refl (omega arith) refl) (λ _.
    cond_both (opens text (codes "&#x")) _ _ P (λ _. numeric_refers 16 3 text is) (λ _.
    cond_both (opens text (codes "&#")) _ _ P (λ _. numeric_refers 10 2 text is) (λ _. tt)))))))

-- a byte in ASCII, or a reference, and what follows
module _ (n : ℕ) (more : (text : List ℕ) → length text < n → IsUtf8 text → IsUtf8 (resolved 0 text)) where
  low_step : (c : ℕ) (rest : List ℕ) → c < 128 → length rest < n → IsUtf8 (c ∷ rest) → (o : Option (ℕ × ℕ)) → IfSome o (Refers (c ∷ rest)) → IsUtf8 (written c o ++ resolved (taken o) rest)
  low_step c rest small short is None refers = ascii_cons c (resolved 0 rest) small (more rest short (tail c rest is small))
  low_step c rest small short is (Some found) refers =
      let some = refers.1 in
      let e : found.1 ≡ (found.1 - 1) + 1 = omega arith in
      let same : drop found.1 (c ∷ rest) ≡ drop (found.1 - 1) rest = ap (λ k. drop k (c ∷ rest)) e ∙ step_drop c rest (found.1 - 1) in
      let shorter : length (drop (found.1 - 1) rest) < n = omega (arith, length-drop (found.1 - 1) rest) in
      IsUtf8-append (encode_utf8 found.0) (resolved (found.1 - 1) rest) (IsUtf8-encode found.0 refers.0)
      (subst IsUtf8 (sym (skipped (found.1 - 1) rest)) (more (drop (found.1 - 1) rest) shorter (subst IsUtf8 same refers.2)))

  points_step : (cs : List ℕ) (text : List ℕ) → all_scalars cs ≡ true → encode_utf8_all cs ≡ text → length text ≤ n → IsUtf8 (resolved 0 text)
  points_step [] text are is within = subst (λ l. IsUtf8 (resolved 0 l)) is IsUtf8-nil
  points_step (c ∷ cs) text are is within =
      let both = and_parts (scalar c) (all_scalars cs) are in
      let rest = encode_utf8_all cs in
      let rest_is : IsUtf8 rest = (cs, (both.1, refl)) in
      let long = length-append (encode_utf8 c) rest in
      let some = len_utf8_bounds c in
      let width = length-encode c in
      let whole : length (encode_utf8 c ++ rest) ≤ n = subst (λ l. length l ≤ n) (sym is) within in
      let short : length rest < n = omega (arith, some.0) in
      ⊎_elim
      (λ small.
      let here : c ∷ rest ≡ text = sym (ap (λ l. l ++ rest) (encode_ascii c small)) ∙ is in
      subst (λ l. IsUtf8 (resolved 0 l)) here (low_step c rest small short (ascii_cons c rest small rest_is) (reference (c ∷ rest)) (reference_refers (c ∷ rest) (ascii_cons c rest small rest_is))))
      (λ large.
      subst (λ l. IsUtf8 (resolved 0 l)) is
      (subst IsUtf8 (sym (resolved_high (encode_utf8 c) rest (high c large))) (IsUtf8-append (encode_utf8 c) (resolved 0 rest) (IsUtf8-encode c both.0) (more rest short rest_is))))
      (cases_lt c 128)

resolved_within : (n : ℕ) (text : List ℕ) → length text < n → IsUtf8 text → IsUtf8 (resolved 0 text)
resolved_within zero text none is = absurd (omega arith)
resolved_within (suc n) text within is = points_step n (resolved_within n) is.0 text is.1.0 is.1.1 (omega arith)

pub read : (text : List ℕ) → IsUtf8 text → IsUtf8 (plain text)
read text is = resolved_within (suc (length (lines text))) (lines text) (omega arith) (ended text is)
