-- How told contents go on from one call to the next.
use Rattle.std.proofs.Common.{◌≡◌, ℕ, ◌+◌, ◌-◌, ◌<◌, ◌≤◌, List, [], ◌∷◌, ◌++◌, length, take, drop, get_or, Some, None, Option, refl, sym, ◌∙◌, ap, append_assoc}
use Rattle.std.proofs.Math.Seq.{take-add}
use Rattle.std.proofs.lemmas.List.{append-nil, take_rest, take_at, take-append-drop, drop-drop, drop_more, length-take-le}
use Rattle.mug_outside.specs.Told.{ahead, behind, TookPart, TookLess}

pub behind_behind : (xs ys : List ℕ) (o : Option (List ℕ)) → behind ys (behind xs o) ≡ behind (xs ++ ys) o
behind_behind xs ys None = refl
behind_behind xs ys (Some b) = ap Some (append_assoc b xs ys)

pub ahead_ahead : (xs ys : List ℕ) (o : Option (List ℕ)) → ahead xs (ahead ys o) ≡ ahead (xs ++ ys) o
ahead_ahead xs ys None = refl
ahead_ahead xs ys (Some b) = ap Some (sym (append_assoc xs ys b))

pub behind_nil : (o : Option (List ℕ)) → behind [] o ≡ o
behind_nil None = refl
behind_nil (Some b) = ap Some (append-nil b)

-- one more piece of the same bytes
pub behind_piece : (bytes : List ℕ) (at n : ℕ) (start mid new : Option (List ℕ)) → mid ≡ behind (take at bytes) start → new ≡ behind (take n (take (length bytes - at) (drop at bytes))) mid
    → new ≡ behind (take (at + n) bytes) start
behind_piece bytes at n start mid new before now =
    now ∙ ap (λ (l : List ℕ). behind (take n l) mid) (take_rest bytes at) ∙ ap (behind (take n (drop at bytes))) before ∙ behind_behind (take at bytes) (take n (drop at bytes)) start
    ∙ ap (λ (l : List ℕ). behind l start) (sym (take-add at n bytes))

-- a front that is not the whole
pub took_less : (bytes : List ℕ) (at : ℕ) (start new : Option (List ℕ)) → at < length bytes → new ≡ behind (take at bytes) start → TookLess bytes start new
took_less bytes at start new within is = (
  take at bytes,
  get_or bytes at 0,
  drop (at + 1) bytes,
  sym (take-append-drop at bytes) ∙ ap (λ (l : List ℕ). take at bytes ++ l) (drop_more bytes at 0 within),
  is,
)

-- a part of a piece that stands behind what was taken, before others, is a part of the whole
pub part_of : (all before piece after : List ℕ) (start mid new : Option (List ℕ)) → all ≡ before ++ (piece ++ after) → mid ≡ behind before start → TookPart piece mid new → TookPart all start new
part_of all before piece after start mid new whole is (part, rest, split, took) = (
  before ++ part,
  rest ++ after,
  whole ∙ ap (λ (l : List ℕ). before ++ (l ++ after)) split ∙ ap (λ (l : List ℕ). before ++ l) (append_assoc part rest after) ∙ sym (append_assoc before part (rest ++ after)),
  took ∙ ap (behind part) is ∙ behind_behind before part start,
)

pub part_from_less : (text : List ℕ) (start new : Option (List ℕ)) → TookLess text start new → TookPart text start new
part_from_less text start new (part, byte, rest, split, took) = (part, byte ∷ rest, split, took)

-- what was copied into the front of a buffer, and what is left behind it
pub copied : (bytes piece into : List ℕ) (at n : ℕ) → n ≤ length (drop at bytes) → piece ≡ take n (drop at bytes) → drop at bytes ≡ take n (piece ++ into) ++ drop (at + n) bytes
copied bytes piece into at n fits is =
    let size : length piece ≡ n = ap length is ∙ length-take-le n (drop at bytes) fits in
    let front : take n (piece ++ into) ≡ take n (drop at bytes) = take_at piece into n size ∙ is in
    sym (ap (λ (l : List ℕ). l ++ drop (at + n) bytes) front ∙ ap (λ (l : List ℕ). take n (drop at bytes) ++ l) (sym (drop-drop n at bytes)) ∙ take-append-drop n (drop at bytes))
