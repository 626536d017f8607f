-- What std's decoder of units says, in code points.
use Rattle.std.proofs.Common.{◌≡◌, ℕ, ◌<◌, ◌≤◌, ⊎_elim, false, List, [], ◌∷◌, ◌++◌, Option, Some, None, Result, Ok, Err, refl, sym, ap, ◌∙◌, append_assoc, arith, MatchOption, IfSome, IfOk, IsSomeAnd}
use Rattle.std.specs.declared.iter.Copied.{Copied}
use Rattle.std.specs.declared.slice.Iter.{Iter}
use Rattle.std.specs.declared.char.DecodeUtf16.{DecodeUtf16}
use Rattle.std.specs.declared.char.DecodeUtf16Error.{DecodeUtf16Error}
use Rattle.std.specs.Slice.Iter.{iter_rest}
use Rattle.std.specs.Option.{option_copied}
use Rattle.std.specs.Result.{result_unwrap_or}
use Rattle.std.specs.Iterator.Adapters.{copied_source, copied_steps, peekable_source, peekable_peeked, peekable_steps}
use Rattle.std.specs.Char.{IsScalar, encode_utf8}
use Rattle.std.specs.Char.Escape.{encode_utf16}
use Rattle.std.specs.Char.Utf16.{decode_utf16_units, decode_utf16_steps, unpaired_surrogate, is_low_surrogate}
use Rattle.std.proofs.iter.Yields.{fronts}
use Rattle.std.proofs.lemmas.List.{nil_from_length}
use Rattle.std.proofs.lemmas.Bool.{cases_lt}
use denote.Ref.{Bor}
use Rattle.mug_text.specs.Text.{joined, code_points, utf8_of}
use Rattle.mug_text.proofs.Texts.{code_points-encode, joined_apart, joined_low, bytes_past_point, or_replacement-scalar, or_replacement-surrogate}

abbrev Source : Type 0
Source = Copied (Iter ℕ)

-- the units that are to come, where o was looked at ahead of a source
abbrev ahead : Option (Option ℕ) → Source → List ℕ
ahead None source = iter_rest (copied_source source)
ahead (Some None) source = []
ahead (Some (Some v)) source = v ∷ iter_rest (copied_source source)

-- the units that are to come
abbrev pub units_left : DecodeUtf16 Source → List ℕ
units_left s = ahead (peekable_peeked (decode_utf16_units s)) (peekable_source (decode_utf16_units s))

-- what one unit, and the end, leaves to come
module _ (s t : Source) where
  copied_one : (u : ℕ) (o : Option (Bor ℕ)) → fronts (copied_source s) o (copied_source t) → Some u ≡ option_copied o → iter_rest (copied_source s) ≡ u ∷ iter_rest (copied_source t)
  copied_one u None step is = absurd (cc)
  copied_one u (Some v) step is =
      let same : u ≡ v.now = cc in
      step ∙ ap (λ x. x ∷ iter_rest (copied_source t)) (sym same)

  copied_none : (o : Option (Bor ℕ)) → fronts (copied_source s) o (copied_source t) → None ≡ option_copied o → iter_rest (copied_source s) ≡ []
  copied_none None step is = nil_from_length _ step.0
  copied_none (Some v) step is = absurd (cc)

  abbrev Asked : Option (Option ℕ) → Option ℕ → Type 0
  Asked o r = MatchOption o (copied_steps fronts s r t) (λ p. (r ≡ p) × (t ≡ s))

  one : (o : Option (Option ℕ)) (u : ℕ) → Asked o (Some u) → ahead o s ≡ u ∷ iter_rest (copied_source t)
  one None u step = copied_one u step.0 step.1 step.2
  one (Some None) u step = absurd (cc step.0)
  one (Some (Some v)) u step =
      let same : v ≡ u = cc step.0 in
      λ i. same i ∷ iter_rest (copied_source (sym step.1 i))

  none : (o : Option (Option ℕ)) → Asked o None → ahead o s ≡ []
  none None step = copied_none step.0 step.1 step.2
  none (Some None) step = refl
  none (Some (Some v)) step = absurd (cc step.0)

  -- where an answer comes, and nothing is looked at ahead of the source
  taken : (o p : Option (Option ℕ)) (u : ℕ) → (p ≡ None) × Asked o (Some u) → ahead o s ≡ u ∷ ahead p t
  taken o p u step = one o u step.1 ∙ ap (λ q. u ∷ ahead q t) (sym step.0)

  -- where an answer is looked at, as many come as before
  peeked : (o p : Option (Option ℕ)) (r : Option ℕ) → Asked o r → p ≡ Some r → ahead p t ≡ ahead o s
  peeked o p None step is = ap (λ q. ahead q t) is ∙ sym (none o step)
  peeked o p (Some u) step is = ap (λ q. ahead q t) is ∙ sym (one o u step)

-- the code point of what the decoder gives
pub decoded_char : (s t : DecodeUtf16 Source) (c : ℕ) → IsScalar c → decode_utf16_steps (copied_steps fronts) s (Some (Ok c)) t → code_points (units_left s) ≡ c ∷ code_points (units_left t)
decoded_char s t c is step = ap code_points (⊎_elim alone paired step.3) ∙ code_points-encode c (units_left t) is
  where
    first : units_left s ≡ step.0 ∷ ahead (peekable_peeked step.1) (peekable_source step.1)
    first = taken _ _ _ _ step.0 step.2

    alone : (encode_utf16 c ≡ step.0 ∷ []) × (decode_utf16_units t ≡ step.1) → units_left s ≡ encode_utf16 c ++ units_left t
    alone h = first ∙ (λ i. sym h.0 i ++ ahead (peekable_peeked (sym h.1 i)) (peekable_source (sym h.1 i)))

    paired : (v : ℕ) × peekable_steps (copied_steps fronts) step.1 (Some v) (decode_utf16_units t) × (encode_utf16 c ≡ step.0 ∷ v ∷ []) → units_left s ≡ encode_utf16 c ++ units_left t
    paired h = first ∙ ap (λ l. step.0 ∷ l) (taken _ _ _ _ h.0 h.1) ∙ ap (λ l. l ++ units_left t) (sym h.2)

unpaired : (u : ℕ) (o : Option (Option ℕ)) (source : Source) → IsSomeAnd o (λ p. IfSome p (λ v. is_low_surrogate v ≡ false)) → joined u (code_points (ahead o source)) ≡ u ∷ code_points (ahead o source)
unpaired u None source apart = absurd apart
unpaired u (Some None) source apart = refl
unpaired u (Some (Some v)) source apart = joined_apart u v (code_points (iter_rest (copied_source source))) apart

-- the surrogate that stands for itself
pub decoded_lone : (s t : DecodeUtf16 Source) (e : DecodeUtf16Error) → decode_utf16_steps (copied_steps fronts) s (Some (Err e)) t
    → (code_points (units_left s) ≡ unpaired_surrogate e ∷ code_points (units_left t)) × (0xD800 ≤ unpaired_surrogate e) × (unpaired_surrogate e < 0xE000)
decoded_lone s t e step = (
  ap code_points (taken _ _ _ _ step.0 step.2) ∙ ap (λ l. joined step.0 (code_points l)) (sym same) ∙ alone ∙ ap (λ u. u ∷ code_points (units_left t)) (sym step.3.0),
  omega (arith, step.3.0, step.3.1.0),
  omega (arith, step.3.0, step.3.1.1),
)
  where
    same : units_left t ≡ ahead (peekable_peeked step.1) (peekable_source step.1)
    same = ⊎_elim (λ is. λ i. ahead (peekable_peeked (is i)) (peekable_source (is i))) (λ peeks. peeked _ _ _ _ peeks.0 peeks.1 peeks.2) step.3.1.2

    alone : joined step.0 (code_points (units_left t)) ≡ step.0 ∷ code_points (units_left t)
    alone = ⊎_elim (λ below. unpaired step.0 _ _ (step.3.1.3 below).1) (λ from. joined_low step.0 _ from) (cases_lt step.0 0xDC00)

-- what a character or a surrogate without a partner leaves of the bytes
pub decoded_bytes : (s t : DecodeUtf16 Source) (r : Result ℕ DecodeUtf16Error) → IfOk r IsScalar → decode_utf16_steps (copied_steps fronts) s (Some r) t
    → utf8_of (units_left s) ≡ encode_utf8 (result_unwrap_or r 0xFFFD) ++ utf8_of (units_left t)
decoded_bytes s t (Ok c) is step =
    bytes_past_point (units_left s) (units_left t) c (decoded_char s t c is step) ∙ ap (λ p. encode_utf8 p ++ utf8_of (units_left t)) (or_replacement-scalar c is)
decoded_bytes s t (Err e) is step =
    let lone = decoded_lone s t e step in
    bytes_past_point (units_left s) (units_left t) (unpaired_surrogate e) lone.0 ∙ ap (λ p. encode_utf8 p ++ utf8_of (units_left t)) (or_replacement-surrogate (unpaired_surrogate e) lone.1 lone.2)

-- one more piece is appended
pub one_more : {before after all : List ℕ} (old shown piece rest : List ℕ) → before ≡ old ++ shown → after ≡ before ++ piece → shown ++ (piece ++ rest) ≡ all
    → (x : List ℕ) × (after ≡ old ++ x) × (x ++ rest ≡ all)
one_more old shown piece rest so_far more then =
    (shown ++ piece, more ∙ ap (λ l. l ++ piece) so_far ∙ append_assoc old shown piece, append_assoc shown piece rest ∙ then)
