-- The turns of a path by their numbers.
use Rattle.std.proofs.Common.{◌≡◌, ℕ, suc, ◌+◌, ◌-◌, ◌<◌, Bool, true, false, cond, List, [], ◌∷◌, length, get_or, map, reverse, slice_get, Some, refl, sym, ap, ◌∙◌, arith}
use Rattle.std.proofs.lemmas.List.{length-append, length-map, length-reverse, get_or_append_left, get_or-append_right, get_or-map, get_or-reverse, get_or_at}
use Rattle.std.proofs.lemmas.Option.{slice_get-get_or}
use Rattle.js_value.specs.declared.value.ObjId.{ObjId}
use Rattle.event_dispatch.specs.Dispatch.{Turn, turn_in, turns_of}
use Rattle.event_dispatch.specs.declared.turn.Phase.TheVariants.{Capturing, AtTarget, Bubbling}

abbrev down : List ObjId → List Turn
down above = map (turn_in Capturing) (reverse above)

abbrev up : List ObjId → Bool → List Turn
up above b = cond b (map (turn_in Bubbling) above) []

down-length : (above : List ObjId) → length (down above) ≡ length above
down-length above = length-map (reverse above) (turn_in Capturing) ∙ length-reverse above

up-length : (above : List ObjId) (b : Bool) → length (up above b) ≡ cond b (length above) 0
up-length above true = length-map above (turn_in Bubbling)
up-length above false = refl

pub turns-length : (target : ObjId) (above : List ObjId) (b : Bool) → length (turns_of (target ∷ above) b) ≡ length above + suc (cond b (length above) 0)
turns-length target above b =
    let whole = length-append (down above) (turn_in AtTarget target ∷ up above b) in
    let a = down-length above in
    let c = up-length above b in
    omega (arith, whole, a, c)

pub turn_down : (target : ObjId) (above : List ObjId) (b : Bool) (at : ℕ) (d : ObjId) → at < length above → slice_get (turns_of (target ∷ above) b) at ≡ Some (turn_in Capturing (get_or (target ∷ above) (length above - at) d))
turn_down target above b at d h =
    let e : Turn = turn_in Capturing d in
    let a = down-length above in
    let long = turns-length target above b in
    let place : length above - at ≡ suc (length above - 1 - at) = omega arith in
    slice_get-get_or (turns_of (target ∷ above) b) at e (omega arith)
    ∙ ap Some (get_or_append_left (down above) (turn_in AtTarget target ∷ up above b) e at (omega arith)
    ∙ get_or-map (turn_in Capturing) (reverse above) at d e (omega (arith, length-reverse above))
    ∙ ap (turn_in Capturing) (get_or-reverse above at d h ∙ sym (ap (λ n. get_or (target ∷ above) n d) place)))

pub turn_target : (target : ObjId) (above : List ObjId) (b : Bool) → slice_get (turns_of (target ∷ above) b) (length above) ≡ Some (turn_in AtTarget target)
turn_target target above b =
    let e : Turn = turn_in AtTarget target in
    let long = turns-length target above b in
    slice_get-get_or (turns_of (target ∷ above) b) (length above) e (omega arith) ∙ ap Some (get_or_at (down above) e (up above b) e (length above) (down-length above))

up_at : (above : List ObjId) (b : Bool) (k : ℕ) (d : ObjId) → k < cond b (length above) 0 → get_or (up above b) k (turn_in Bubbling d) ≡ turn_in Bubbling (get_or above k d)
up_at above true k d h = get_or-map (turn_in Bubbling) above k d (turn_in Bubbling d) h
up_at above false k d h = absurd (omega (arith, h))

pub turn_up : (target : ObjId) (above : List ObjId) (b : Bool) (at : ℕ) (d : ObjId) → length above < at → at < length (turns_of (target ∷ above) b) → slice_get (turns_of (target ∷ above) b) at ≡ Some (turn_in Bubbling (get_or (target ∷ above) (at - length above) d))
turn_up target above b at d h w =
    let e : Turn = turn_in Bubbling d in
    let a = down-length above in
    let long = turns-length target above b in
    let place : at - length above ≡ suc (at - length above - 1) = omega arith in
    slice_get-get_or (turns_of (target ∷ above) b) at e w
    ∙ ap Some (get_or-append_right (down above) (turn_in AtTarget target ∷ up above b) (length above) at e a (omega arith)
    ∙ ap (λ n. get_or (turn_in AtTarget target ∷ up above b) n e) place
    ∙ up_at above b (at - length above - 1) d (omega arith)
    ∙ ap (turn_in Bubbling) (sym (ap (λ n. get_or (target ∷ above) n d) place)))

-- The same of any path that isn't empty.

pub count_none : (owners : List ObjId) (b : Bool) → length owners ≡ 0 → length (turns_of owners b) ≡ 0
count_none [] b h = refl
count_none (t ∷ above) b h = absurd (omega (arith, h))

pub count_some : (owners : List ObjId) (b : Bool) → 0 < length owners → length (turns_of owners b) ≡ length owners - 1 + suc (cond b (length owners - 1) 0)
count_some [] b h = absurd (omega (arith, h))
count_some (t ∷ above) b h =
    let e : length above ≡ length (t ∷ above) - 1 = omega arith in
    turns-length t above b ∙ ap (λ n. n + suc (cond b n 0)) e

pub turn_front : (owners : List ObjId) (b : Bool) (at : ℕ) (d : ObjId) → at < length owners - 1 → slice_get (turns_of owners b) at ≡ Some (turn_in Capturing (get_or owners (length owners - 1 - at) d))
turn_front [] b at d h = absurd (omega (arith, h))
turn_front (t ∷ above) b at d h =
    let e : length above ≡ length (t ∷ above) - 1 = omega arith in
    turn_down t above b at d (omega (arith, h)) ∙ ap (λ n. Some (turn_in Capturing (get_or (t ∷ above) (n - at) d))) e

pub turn_middle : (owners : List ObjId) (b : Bool) (at : ℕ) (d : ObjId) → 0 < length owners → at ≡ length owners - 1 → slice_get (turns_of owners b) at ≡ Some (turn_in AtTarget (get_or owners 0 d))
turn_middle [] b at d h e = absurd (omega (arith, h))
turn_middle (t ∷ above) b at d h e =
    let f : at ≡ length above = omega (arith, e) in
    ap (slice_get (turns_of (t ∷ above) b)) f ∙ turn_target t above b

pub turn_behind : (owners : List ObjId) (b : Bool) (at : ℕ) (d : ObjId) → 0 < length owners → length owners - 1 < at → at < length (turns_of owners b) → slice_get (turns_of owners b) at ≡ Some (turn_in Bubbling (get_or owners (at - (length owners - 1)) d))
turn_behind [] b at d h k w = absurd (omega (arith, h))
turn_behind (t ∷ above) b at d h k w =
    let e : length above ≡ length (t ∷ above) - 1 = omega arith in
    turn_up t above b at d (omega (arith, k)) w ∙ ap (λ n. Some (turn_in Bubbling (get_or (t ∷ above) (at - n) d))) e

-- a path that has a turn isn't empty
pub filled : (owners : List ObjId) (b : Bool) (at : ℕ) → at < length (turns_of owners b) → 0 < length owners
filled [] b at h = absurd (omega (arith, h))
filled (t ∷ above) b at h = omega arith
