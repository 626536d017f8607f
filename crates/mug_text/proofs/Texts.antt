-- Laws of texts: a text is determined by its bytes and by its code points, and no text's bytes stop.
use Rattle.std.proofs.Common.{◌≡◌, ◌≢◌, ℕ, ◌+◌, ◌-◌, ◌*◌, ◌/◌, ◌%◌, ◌<◌, ◌≤◌, ◌⊎◌, inl, inr, ⊎_elim, true, false, ◌&&◌, if◌then◌else◌, List, [], ◌∷◌, ◌++◌, map, All, refl, sym, ap, subst, ◌∙◌, append_assoc, arith, length, length-append}
use Rattle.std.specs.List.{flat_map}
use Rattle.std.specs.Str.{all_scalars, encode_utf8_all, StartsWithNoChar}
use Rattle.std.specs.Char.{IsScalar, encode_utf8}
use Rattle.std.specs.Char.Escape.{encode_utf16}
use Rattle.std.specs.Char.Utf16.{is_high_surrogate, is_low_surrogate, surrogate_pair_char}
use Rattle.std.proofs.lemmas.Bool.{ltb-true, leb-true, lt-ltb, le-ltb, lt-leb, le-leb, and_parts, and_from, and_left, and_right, cond_both, cond-true, cond-false, cases_lt}
use Rattle.std.proofs.lemmas.Bool.Decides.{nat_tests}
use Rattle.std.proofs.lemmas.List.Elements.{All-append, All-cons, All-head, All-nil, All-same, All-tail}
use Rattle.std.proofs.lemmas.Str.{encodes_same, encode_same, cons_from_encodes, length-encode, len_utf8_bounds}
use lib.Utf8.{scalar, scalar_cases}
use Rattle.mug_text.specs.Text.{IsText, StopsAt, joined, code_points, IsWellFormed, utf8_of}

-- ---- the units of a code point

pub narrow_units : (c : ℕ) → c < 0x1_0000 → encode_utf16 c ≡ c ∷ []
narrow_units c low = cond-true _ _ _ (lt-ltb c 0x1_0000 low)

wide_units : (c : ℕ) → 0x1_0000 ≤ c → encode_utf16 c ≡ (0xD800 + (c - 0x1_0000) / 0x400) ∷ (0xDC00 + (c - 0x1_0000) % 0x400) ∷ []
wide_units c high = cond-false _ _ _ (le-ltb c 0x1_0000 high)

pair_units : (u v : ℕ) → 0xD800 ≤ u → 0xDC00 ≤ v → v < 0xE000 → encode_utf16 (surrogate_pair_char u v) ≡ u ∷ v ∷ []
pair_units u v high from below =
    let first : 0xD800 + (surrogate_pair_char u v - 0x1_0000) / 0x400 ≡ u = omega arith in
    let second : 0xDC00 + (surrogate_pair_char u v - 0x1_0000) % 0x400 ≡ v = omega arith in
    wide_units (surrogate_pair_char u v) (omega arith) ∙ (λ i. first i ∷ second i ∷ [])

-- ---- a unit in front of code points

high_from : (u : ℕ) → 0xD800 ≤ u → u < 0xDC00 → is_high_surrogate u ≡ true
high_from u from below = and_from _ _ (le-leb 0xD800 u from) (lt-ltb u 0xDC00 below)

low_from : (u : ℕ) → 0xDC00 ≤ u → u < 0xE000 → is_low_surrogate u ≡ true
low_from u from below = and_from _ _ (le-leb 0xDC00 u from) (lt-ltb u 0xE000 below)

not_high : (u : ℕ) → (u < 0xD800) ⊎ (0xDC00 ≤ u) → is_high_surrogate u ≡ false
not_high u (inl below) = and_left _ _ (lt-leb 0xD800 u below)
not_high u (inr from) = and_right _ _ (le-ltb u 0xDC00 from)

joined_alone : (u : ℕ) (cs : List ℕ) → is_high_surrogate u ≡ false → joined u cs ≡ u ∷ cs
joined_alone u [] apart = refl
joined_alone u (c ∷ cs) apart = cond-false _ _ _ (and_left _ _ apart)

joined_pair : (u v : ℕ) (cs : List ℕ) → 0xD800 ≤ u → u < 0xDC00 → 0xDC00 ≤ v → v < 0xE000 → joined u (joined v cs) ≡ surrogate_pair_char u v ∷ cs
joined_pair u v cs high least low most =
    ap (joined u) (joined_alone v cs (not_high v (inr low))) ∙ cond-true _ _ _ (and_from _ _ (high_from u high least) (low_from v low most))

-- a unit in front of a unit that is no second of a pair stands for itself
joined_other : (u v : ℕ) (cs : List ℕ) → is_low_surrogate v ≡ false → joined u (v ∷ cs) ≡ u ∷ v ∷ cs
joined_other u v cs apart = cond-false _ _ _ (and_right _ _ apart)

large_pair : (u v : ℕ) → is_low_surrogate (surrogate_pair_char u v) ≡ false
large_pair u v = and_right _ _ (le-ltb (surrogate_pair_char u v) 0xE000 (omega arith))

pub joined_apart : (u v : ℕ) (cs : List ℕ) → is_low_surrogate v ≡ false → joined u (joined v cs) ≡ u ∷ joined v cs
joined_apart u v [] apart = joined_other u v [] apart
joined_apart u v (c ∷ cs) apart =
    let P : List ℕ → Type 0 = λ l. joined u l ≡ u ∷ l in
    cond_both (is_high_surrogate v && is_low_surrogate c) (surrogate_pair_char v c ∷ cs) (v ∷ c ∷ cs) P (λ _. joined_other u (surrogate_pair_char v c) cs (large_pair v c)) (λ _. joined_other u v (c ∷ cs) apart)

pub joined_low : (u : ℕ) (cs : List ℕ) → 0xDC00 ≤ u → joined u cs ≡ u ∷ cs
joined_low u cs from = joined_alone u cs (not_high u (inr from))

not_high-scalar : (c : ℕ) → IsScalar c → (c < 0xD800) ⊎ (0xDC00 ≤ c)
not_high-scalar c is = ⊎_elim (λ below. inl below) (λ from. inr (omega arith)) (scalar_cases c is)

scalar_small : (c : ℕ) → IsScalar c → c < 0x11_0000
scalar_small c is = ⊎_elim (λ below. omega arith) (λ from. from.1) (scalar_cases c is)

-- the units of a character in front of others give it in front of their code points
pub code_points-encode : (c : ℕ) (us : List ℕ) → IsScalar c → code_points (encode_utf16 c ++ us) ≡ c ∷ code_points us
code_points-encode c us is = ⊎_elim narrow wide (cases_lt c 0x1_0000)
  where
    narrow : c < 0x1_0000 → code_points (encode_utf16 c ++ us) ≡ c ∷ code_points us
    narrow small = ap (λ l. code_points (l ++ us)) (narrow_units c small) ∙ joined_alone c (code_points us) (not_high c (not_high-scalar c is))

    wide : 0x1_0000 ≤ c → code_points (encode_utf16 c ++ us) ≡ c ∷ code_points us
    wide large =
        let small = scalar_small c is in
        let u : ℕ = 0xD800 + (c - 0x1_0000) / 0x400 in
        let v : ℕ = 0xDC00 + (c - 0x1_0000) % 0x400 in
        let same : surrogate_pair_char u v ≡ c = omega arith in
        ap (λ l. code_points (l ++ us)) (wide_units c large) ∙ joined_pair u v (code_points us) (omega arith) (omega arith) (omega arith) (omega arith) ∙ ap (λ d. d ∷ code_points us) same

-- code points and back
pub code_points-encodes : (cs : List ℕ) → all_scalars cs ≡ true → code_points (flat_map encode_utf16 cs) ≡ cs
code_points-encodes [] are = refl
code_points-encodes (c ∷ cs) are =
    let parts = and_parts (scalar c) (all_scalars cs) are in
    code_points-encode c (flat_map encode_utf16 cs) parts.0 ∙ ap (λ l. c ∷ l) (code_points-encodes cs parts.1)

encode-joined : (u : ℕ) (cs : List ℕ) → u < 0x1_0000 → flat_map encode_utf16 (joined u cs) ≡ u ∷ flat_map encode_utf16 cs
encode-joined u [] small = ap (λ l. l ++ []) (narrow_units u small)
encode-joined u (c ∷ cs) small = cond_both _ _ _ (λ l. flat_map encode_utf16 l ≡ u ∷ flat_map encode_utf16 (c ∷ cs)) paired alone
  where
    paired : (is_high_surrogate u && is_low_surrogate c) ≡ true → flat_map encode_utf16 (surrogate_pair_char u c ∷ cs) ≡ u ∷ flat_map encode_utf16 (c ∷ cs)
    paired are =
        let both = and_parts (is_high_surrogate u) (is_low_surrogate c) are in
        let high = and_parts _ _ both.0 in
        let low = and_parts _ _ both.1 in
        let from : 0xDC00 ≤ c = leb-true _ _ low.0 in
        let below : c < 0xE000 = ltb-true _ _ low.1 in
        ap (λ l. l ++ flat_map encode_utf16 cs) (pair_units u c (leb-true _ _ high.0) from below) ∙ ap (λ l. u ∷ (l ++ flat_map encode_utf16 cs)) (sym (narrow_units c (omega arith)))

    alone : (is_high_surrogate u && is_low_surrogate c) ≡ false → flat_map encode_utf16 (u ∷ c ∷ cs) ≡ u ∷ flat_map encode_utf16 (c ∷ cs)
    alone apart = ap (λ l. l ++ flat_map encode_utf16 (c ∷ cs)) (narrow_units u small)

-- units and back
pub encodes-code_points : (us : List ℕ) → All (λ u. u < 0x1_0000) us → flat_map encode_utf16 (code_points us) ≡ us
encodes-code_points [] small = refl
encodes-code_points (u ∷ us) small =
    encode-joined u (code_points us) (All-head (λ x. x < 0x1_0000) u us small) ∙ ap (λ l. u ∷ l) (encodes-code_points us (All-tail (λ x. x < 0x1_0000) u us small))

-- ---- the bytes of a text

abbrev pub or_replacement : ℕ → ℕ
or_replacement c = if scalar c then c else 0xFFFD

pub or_replacement-scalar : (c : ℕ) → IsScalar c → or_replacement c ≡ c
or_replacement-scalar c is = cond-true _ _ _ is

pub or_replacement-surrogate : (c : ℕ) → 0xD800 ≤ c → c < 0xE000 → or_replacement c ≡ 0xFFFD
or_replacement-surrogate c from below = grind (arith, nat_tests)

same_points : (cs : List ℕ) → all_scalars cs ≡ true → map or_replacement cs ≡ cs
same_points [] are = refl
same_points (c ∷ cs) are =
    let parts = and_parts (scalar c) (all_scalars cs) are in
    let first : or_replacement c ≡ c = cond-true _ _ _ parts.0 in
    λ i. first i ∷ same_points cs parts.1 i

pub utf8_of-well_formed : (t : List ℕ) → IsWellFormed t → utf8_of t ≡ encode_utf8_all (code_points t)
utf8_of-well_formed t well = ap encode_utf8_all (same_points (code_points t) well)

-- the bytes of a code point, in front of others
pub bytes_past_point : (t u : List ℕ) (p : ℕ) → code_points t ≡ p ∷ code_points u → utf8_of t ≡ encode_utf8 (or_replacement p) ++ utf8_of u
bytes_past_point t u p same = ap (λ cs. encode_utf8_all (map or_replacement cs)) same

few_bytes : (c : ℕ) → length (encode_utf8 c) ≤ 4
few_bytes c = omega (arith, length-encode c, (len_utf8_bounds c).1)

one_point : (p : ℕ) (cs : List ℕ) → length (encode_utf8_all (map or_replacement (p ∷ cs))) ≤ 4 + length (encode_utf8_all (map or_replacement cs))
one_point p cs = omega (arith, few_bytes (or_replacement p), length-append (encode_utf8 (or_replacement p)) (encode_utf8_all (map or_replacement cs)))

-- a unit adds four bytes at most
joined_bytes : (u : ℕ) (cs : List ℕ) → length (encode_utf8_all (map or_replacement (joined u cs))) ≤ 4 + length (encode_utf8_all (map or_replacement cs))
joined_bytes u [] = one_point u []
joined_bytes u (c ∷ cs) =
    let P : List ℕ → Type 0 = λ l. length (encode_utf8_all (map or_replacement l)) ≤ 4 + length (encode_utf8_all (map or_replacement (c ∷ cs))) in
    cond_both (is_high_surrogate u && is_low_surrogate c) (surrogate_pair_char u c ∷ cs) (u ∷ c ∷ cs) P
    (λ _. omega (arith, one_point (surrogate_pair_char u c) cs, length-append (encode_utf8 (or_replacement c)) (encode_utf8_all (map or_replacement cs))))
    (λ _. one_point u (c ∷ cs))

pub utf8_of-bound : (t : List ℕ) → length (utf8_of t) ≤ 4 * length t
utf8_of-bound [] = omega arith
utf8_of-bound (u ∷ us) = omega (arith, joined_bytes u (code_points us), utf8_of-bound us)

-- what follows a text in a text is one
rest_is_text : (cs ds rest : List ℕ) → encode_utf8_all cs ≡ encode_utf8_all ds ++ rest → (es : List ℕ) × (all_scalars cs ≡ true → all_scalars es ≡ true) × (encode_utf8_all es ≡ rest)
rest_is_text cs [] rest same = (cs, (λ are. are), same)
rest_is_text cs (d ∷ ds) rest same =
    let cut = cons_from_encodes cs (encode_utf8_all ds ++ rest) d (same ∙ append_assoc (encode_utf8 d) (encode_utf8_all ds) rest) in
    let after = rest_is_text cut.0 ds rest cut.2 in
    (after.0, (λ are. after.1 (and_parts (scalar d) (all_scalars cut.0) (subst (λ l. all_scalars l ≡ true) cut.1 are)).1), after.2)

no_start : (es rest : List ℕ) → all_scalars es ≡ true → encode_utf8_all es ≡ rest → rest ≢ [] → StartsWithNoChar rest → ⊥
no_start [] rest are same more none = more (sym same)
no_start (e ∷ es) rest are same more none = none e (encode_utf8_all es) (and_parts (scalar e) (all_scalars es) are).0 (sym same)

-- bytes that stop are the bytes of no text
pub text_or_stop : {bytes : List ℕ} {at : ℕ} → StopsAt bytes at → (t : List ℕ) → IsWellFormed t → utf8_of t ≢ bytes
text_or_stop stop t well same =
    let rest = rest_is_text (code_points t) stop.points stop.rest (sym (utf8_of-well_formed t well) ∙ same ∙ stop.split) in
    no_start rest.0 stop.rest (rest.1 well) rest.2 stop.more stop.none

-- bytes stop at one place at most
one_length : (cs ds r t : List ℕ) → all_scalars cs ≡ true → all_scalars ds ≡ true → StartsWithNoChar r → StartsWithNoChar t
    → encode_utf8_all cs ++ r ≡ encode_utf8_all ds ++ t → length (encode_utf8_all cs) ≡ length (encode_utf8_all ds)
one_length [] [] r t are all none bare same = refl
one_length [] (d ∷ ds) r t are all none bare same =
    absurd (none d (encode_utf8_all ds ++ t) (and_parts (scalar d) (all_scalars ds) all).0 (same ∙ append_assoc (encode_utf8 d) (encode_utf8_all ds) t))
one_length (c ∷ cs) [] r t are all none bare same =
    absurd (bare c (encode_utf8_all cs ++ r) (and_parts (scalar c) (all_scalars cs) are).0 (sym same ∙ append_assoc (encode_utf8 c) (encode_utf8_all cs) r))
one_length (c ∷ cs) (d ∷ ds) r t are all none bare same =
    let step = encode_same c d (encode_utf8_all cs ++ r) (encode_utf8_all ds ++ t) (sym (append_assoc (encode_utf8 c) (encode_utf8_all cs) r) ∙ same ∙ append_assoc (encode_utf8 d) (encode_utf8_all ds) t) in
    let rest = one_length cs ds r t (and_parts (scalar c) (all_scalars cs) are).1 (and_parts (scalar d) (all_scalars ds) all).1 none bare step.1 in
    omega (arith, rest, ap (λ x. length (encode_utf8 x)) step.0, length-append (encode_utf8 c) (encode_utf8_all cs), length-append (encode_utf8 d) (encode_utf8_all ds))

pub one_stop : {bytes : List ℕ} {at place : ℕ} → StopsAt bytes at → StopsAt bytes place → at ≡ place
one_stop first second =
    first.place ∙ one_length first.points second.points first.rest second.rest first.scalars second.scalars first.none second.none (sym first.split ∙ second.split) ∙ sym second.place

-- a text is determined by its bytes
pub same_text : (t u : List ℕ) → All (λ x. x < 0x1_0000) t → All (λ x. x < 0x1_0000) u → IsWellFormed t → IsWellFormed u → utf8_of t ≡ utf8_of u → t ≡ u
same_text t u small tiny well good same =
    let points = encodes_same (code_points t) (code_points u) (sym (utf8_of-well_formed t well) ∙ same ∙ utf8_of-well_formed u good) in
    sym (encodes-code_points t small) ∙ ap (flat_map encode_utf16) points ∙ encodes-code_points u tiny

-- ---- the units of bytes

pub well_formed : {bytes units : List ℕ} → IsText bytes units → IsWellFormed units
well_formed text =
    ap (λ l. all_scalars (code_points l)) text.units_are ∙ ap all_scalars (code_points-encodes text.points text.scalars) ∙ text.scalars

pub bytes_back : {bytes units : List ℕ} → IsText bytes units → utf8_of units ≡ bytes
bytes_back {bytes} {units} text =
    utf8_of-well_formed units (well_formed text) ∙ ap (λ l. encode_utf8_all (code_points l)) text.units_are ∙ ap encode_utf8_all (code_points-encodes text.points text.scalars) ∙ sym text.bytes_are

unit_fits : (c : ℕ) → IsScalar c → All (λ u. u < 0x1_0000) (encode_utf16 c)
unit_fits c valid = elim (cases_lt c 0x1_0000) [
  | inl low ↦ All-same (λ u. u < 0x1_0000) _ (c ∷ []) (narrow_units c low) (All-cons (λ u. u < 0x1_0000) c [] low (All-nil (λ u. u < 0x1_0000)))
  | inr high ↦ All-same (λ u. u < 0x1_0000) _ ((0xD800 + (c - 0x1_0000) / 0x400) ∷ (0xDC00 + (c - 0x1_0000) % 0x400) ∷ []) (wide_units c high)
      (All-cons (λ u. u < 0x1_0000) (0xD800 + (c - 0x1_0000) / 0x400) ((0xDC00 + (c - 0x1_0000) % 0x400) ∷ []) (omega (arith, scalar_small c valid)) (All-cons (λ u. u < 0x1_0000) (0xDC00 + (c - 0x1_0000) % 0x400) [] (omega arith) (All-nil (λ u. u < 0x1_0000))))
]

all_fit : (cs : List ℕ) → all_scalars cs ≡ true → All (λ u. u < 0x1_0000) (flat_map encode_utf16 cs)
all_fit [] are = All-nil (λ u. u < 0x1_0000)
all_fit (c ∷ cs) are =
    let parts = and_parts (scalar c) (all_scalars cs) are in
    All-append (λ u. u < 0x1_0000) (encode_utf16 c) (flat_map encode_utf16 cs) (unit_fits c parts.0) (all_fit cs parts.1)

pub units_fit : {bytes units : List ℕ} → IsText bytes units → All (λ u. u < 0x1_0000) units
units_fit text = All-same (λ u. u < 0x1_0000) _ (flat_map encode_utf16 text.points) text.units_are (all_fit text.points text.scalars)

-- bytes have the units of one text at most
pub same_units : {bytes t u : List ℕ} → IsText bytes t → IsText bytes u → t ≡ u
same_units first second =
    let points = encodes_same first.points second.points (sym first.bytes_are ∙ second.bytes_are) in
    first.units_are ∙ ap (flat_map encode_utf16) points ∙ sym second.units_are

-- and each text that is well formed is one with its bytes
pub only_text : {bytes units : List ℕ} → IsText bytes units → (t : List ℕ) → All (λ x. x < 0x1_0000) t → IsWellFormed t → utf8_of t ≡ bytes → t ≡ units
only_text text t small well same =
    let points = encodes_same (code_points t) text.points (sym (utf8_of-well_formed t well) ∙ same ∙ text.bytes_are) in
    sym (encodes-code_points t small) ∙ ap (flat_map encode_utf16) points ∙ sym text.units_are
