-- Parts of parts.
use Rattle.std.proofs.Common.{◌≡◌, ℕ, ◌+◌, ◌-◌, ◌≤◌, List, length, take, drop, slice_range, sym, ap, ◌∙◌, arith}
use Rattle.std.proofs.lemmas.List.{take-take, drop-take, drop-drop}
use Rattle.std.proofs.lemmas.List.Edits.{length-between}

pub part_of_part : (xs : List ℕ) (from to a b : ℕ) → from ≤ to → to ≤ length xs → a ≤ b → b ≤ length (slice_range xs from to) → slice_range xs (from + a) (from + b) ≡ slice_range (slice_range xs from to) a b
part_of_part xs from to a b ordered within inner most =
    let len = length-between xs from to within in
    let m : ℕ = to - from - a in
    let rest : to - from ≡ a + m = omega arith in
    let width : from + b - (from + a) ≡ b - a = omega arith in
    (λ i. take (width i) (sym (drop-drop a from xs) i))
    ∙ sym (take-take (b - a) m (drop a (drop from xs)) (omega (arith, len, most)))
    ∙ ap (take (b - a)) (sym (drop-take a m (drop from xs)))
    ∙ ap (λ n. take (b - a) (drop a (take n (drop from xs)))) (sym rest)
