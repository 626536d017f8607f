-- Bytes that are the parts of no head.
use Rattle.std.proofs.Common.{◌≡◌, ◌≢◌, ℕ, ◌+◌, ◌<◌, ◌≤◌, ◌^◌, List, [], ◌∷◌, ◌++◌, length, sym, ◌∙◌, ap, arith, length-append, ◌-◌, take, drop, get_or, Result, Ok, Err, Option, Some, None, IfOk, MatchOption}
use Rattle.std.specs.Int.{to_be_bytes, w64}
use Rattle.std.proofs.lemmas.List.{take_all}
use Rattle.mug_text.specs.Text.{IsWellFormed, utf8_of}
use Rattle.input_log.specs.Items.{BeginsWith, BeginsWithNone, encoding, sized}
use Rattle.input_log.specs.declared.item.TheConstants.{HEAD_PAGE_LIMIT, STEPS_LIMIT}
use Rattle.input_log.specs.inner.Heads.{HasHead, HasNoHead, HasNoLong, HasNoSized, HasNoTime, HasNoWord, head_parts}
use Rattle.input_log.specs.declared.item.LogItem.{LogItem}
use Rattle.mug_text.specs.declared.memory.NoMemory.{NoMemory}
use Rattle.input_log.specs.declared.item.LogItem.TheVariants.{Head, Load, Now, Rand}
use Rattle.input_log.proofs.Laws.{head_bytes, same_longs, same_parts, same_sized}

pub no_text : (bytes : List ℕ) → HasNoSized bytes → HasNoHead bytes
no_text bytes none base budget page rest valid same = none (utf8_of base) (to_be_bytes w64 budget ++ (sized page ++ rest)) valid.0.sized same

pub no_budget : (bytes text behind : List ℕ) → length text < 2 ^ 32 → bytes ≡ sized text ++ behind → HasNoLong behind → HasNoHead bytes
no_budget bytes text behind fits is none base budget page rest valid same =
    let texts = same_sized text (utf8_of base) behind (to_be_bytes w64 budget ++ (sized page ++ rest)) fits valid.0.sized (sym is ∙ same) in
    none budget (sized page ++ rest) (omega arith) texts.1

pub no_page : (bytes text behind last : List ℕ) (number : ℕ) → length text < 2 ^ 32 → number < 2 ^ 64 → bytes ≡ sized text ++ behind → behind ≡ to_be_bytes w64 number ++ last
    → HasNoSized last → HasNoHead bytes
no_page bytes text behind last number fits fits_number is then none base budget page rest valid same =
    let texts = same_sized text (utf8_of base) behind (to_be_bytes w64 budget ++ (sized page ++ rest)) fits valid.0.sized (sym is ∙ same) in
    let budgets = same_longs number budget last (sized page ++ rest) fits_number (omega arith) (sym then ∙ texts.1) in
    none page rest (omega arith) budgets.1

-- the parts as they were read
pub parts_read : (bytes text behind last page rest : List ℕ) (number : ℕ) → bytes ≡ sized text ++ behind → behind ≡ to_be_bytes w64 number ++ last → last ≡ sized page ++ rest → bytes ≡ head_parts text number page rest
parts_read bytes text behind last page rest number is then end =
    is ∙ ap (λ (l : List ℕ). sized text ++ l) (then ∙ ap (λ (l : List ℕ). to_be_bytes w64 number ++ l) end)

-- parts that are out of range, or a text that isn't one
pub no_range : (bytes text page rest : List ℕ) (number : ℕ) → length text < 2 ^ 32 → number < 2 ^ 64 → length page < 2 ^ 32 → bytes ≡ head_parts text number page rest
    → (1 ≤ number → number ≤ STEPS_LIMIT → length page ≤ HEAD_PAGE_LIMIT → ⊥) → HasNoHead bytes
no_range bytes text page rest number fits fits_number fits_page is out base budget page' rest' valid same =
    let parts = same_parts text number page rest (utf8_of base) budget page' rest' fits valid.0.sized fits_number (omega arith) fits_page (omega arith) (sym is ∙ same) in
    out (omega (arith, parts.1, valid.1)) (omega (arith, parts.1, valid.2)) (omega (arith, ap length parts.2, valid.3))

pub not_utf8 : (bytes text page rest : List ℕ) (number : ℕ) → length text < 2 ^ 32 → number < 2 ^ 64 → length page < 2 ^ 32 → bytes ≡ head_parts text number page rest
    → ((t : List ℕ) → IsWellFormed t → utf8_of t ≢ text) → HasNoHead bytes
not_utf8 bytes text page rest number fits fits_number fits_page is none base budget page' rest' valid same =
    let parts = same_parts text number page rest (utf8_of base) budget page' rest' fits valid.0.sized fits_number (omega arith) fits_page (omega arith) (sym is ∙ same) in
    none base valid.0.well_formed (sym parts.0)

-- the number of a head's bytes
pub head_takes : (base : List ℕ) (budget : ℕ) (page text piece : List ℕ) → utf8_of base ≡ text → page ≡ piece → 17 + length text + length piece ≡ length (encoding (Head base budget page))
head_takes base budget page text piece whole same =
    omega (arith, ap length whole, ap length same, length-append (utf8_of base) (to_be_bytes w64 budget ++ sized page))

-- bytes behind a first byte
pub begins : (bytes behind : List ℕ) (b : ℕ) → 1 ≤ length bytes → get_or bytes 0 0 ≡ b → behind ≡ take (length bytes - 1) (drop 1 bytes) → bytes ≡ b ∷ behind
begins [] behind b some first rest = absurd (omega arith)
begins (x ∷ xs) behind b some first rest =
    let all : take (length (x ∷ xs) - 1) xs ≡ xs = take_all (length (x ∷ xs) - 1) xs (omega arith) in
    λ i. first i ∷ (sym all ∙ sym rest) i

pub only_load : (bytes behind : List ℕ) → bytes ≡ 3 ∷ behind → HasNoTime behind → BeginsWithNone bytes
only_load bytes behind is none (Head base budget page) rest valid same = let e : 3 ∷ behind ≡ encoding (Head base budget page) ++ rest = sym is ∙ same in cc
only_load bytes behind is none (Load t) rest valid same = let e : 3 ∷ behind ≡ encoding (Load t) ++ rest = sym is ∙ same in none t rest valid (cc)
only_load bytes behind is none (Now v) rest valid same = let e : 3 ∷ behind ≡ encoding (Now v) ++ rest = sym is ∙ same in cc
only_load bytes behind is none (Rand w) rest valid same = let e : 3 ∷ behind ≡ encoding (Rand w) ++ rest = sym is ∙ same in cc

pub only_now : (bytes behind : List ℕ) → bytes ≡ 9 ∷ behind → HasNoTime behind → BeginsWithNone bytes
only_now bytes behind is none (Head base budget page) rest valid same = let e : 9 ∷ behind ≡ encoding (Head base budget page) ++ rest = sym is ∙ same in cc
only_now bytes behind is none (Load t) rest valid same = let e : 9 ∷ behind ≡ encoding (Load t) ++ rest = sym is ∙ same in cc
only_now bytes behind is none (Now v) rest valid same = let e : 9 ∷ behind ≡ encoding (Now v) ++ rest = sym is ∙ same in none v rest valid (cc)
only_now bytes behind is none (Rand w) rest valid same = let e : 9 ∷ behind ≡ encoding (Rand w) ++ rest = sym is ∙ same in cc

pub only_rand : (bytes behind : List ℕ) → bytes ≡ 10 ∷ behind → HasNoWord behind → BeginsWithNone bytes
only_rand bytes behind is none (Head base budget page) rest valid same = let e : 10 ∷ behind ≡ encoding (Head base budget page) ++ rest = sym is ∙ same in cc
only_rand bytes behind is none (Load t) rest valid same = let e : 10 ∷ behind ≡ encoding (Load t) ++ rest = sym is ∙ same in cc
only_rand bytes behind is none (Now v) rest valid same = let e : 10 ∷ behind ≡ encoding (Now v) ++ rest = sym is ∙ same in cc
only_rand bytes behind is none (Rand w) rest valid same = let e : 10 ∷ behind ≡ encoding (Rand w) ++ rest = sym is ∙ same in none w rest valid (cc)

pub only_head : (bytes behind : List ℕ) → bytes ≡ 0 ∷ behind → HasNoHead behind → BeginsWithNone bytes
only_head bytes behind is none (Head base budget page) rest valid same =
    let e : 0 ∷ behind ≡ 0 ∷ head_parts (utf8_of base) budget page rest = sym is ∙ same ∙ head_bytes base budget page rest in none base budget page rest valid (cc)
only_head bytes behind is none (Load t) rest valid same = let e : 0 ∷ behind ≡ encoding (Load t) ++ rest = sym is ∙ same in cc
only_head bytes behind is none (Now v) rest valid same = let e : 0 ∷ behind ≡ encoding (Now v) ++ rest = sym is ∙ same in cc
only_head bytes behind is none (Rand w) rest valid same = let e : 0 ∷ behind ≡ encoding (Rand w) ++ rest = sym is ∙ same in cc

pub has_head : (bytes behind : List ℕ) (item : LogItem) (len : ℕ) → bytes ≡ 0 ∷ behind → HasHead behind item len → BeginsWith bytes item len
has_head bytes behind item len is head = record {
  rest = head.rest;
  valid = head.valid;
  is = is ∙ ap (λ (l : List ℕ). 0 ∷ l) head.is ∙ sym (head_bytes head.base head.budget head.page head.rest) ∙ ap (λ (i : LogItem). encoding i ++ head.rest) (sym head.head);
  takes = head.takes;
}

-- what a reader of heads answers, in front of its bytes the first
pub head_first : (bytes behind : List ℕ) (r : Result (Option (LogItem × ℕ)) NoMemory) → bytes ≡ 0 ∷ behind
    → IfOk r (λ found. MatchOption found (HasNoHead behind) (λ pair. HasHead behind pair.0 pair.1))
    → IfOk r (λ found. MatchOption found (BeginsWithNone bytes) (λ pair. BeginsWith bytes pair.0 pair.1))
head_first bytes behind (Ok None) is fact = only_head bytes behind is fact
head_first bytes behind (Ok (Some pair)) is fact = has_head bytes behind pair.0 pair.1 is fact
head_first bytes behind (Err e) is fact = tt
