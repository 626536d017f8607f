use Rattle.std.proofs.Common.{◌≡◌, ◌-◌, ◌≤◌, length, take, drop, Some, ap, sym, ◌∙◌, arith}
use Rattle.std.proofs.lemmas.List.{take_rest}
use Rattle.mug_outside.proofs.Told.{copied}
use Rattle.mug_outside.proofs.mem_source.MemSourceSource.read.Goals as goal

pub returns-clause-told : goal.returns-clause-told
returns-clause-told c =
    let at = c.self.inside.at in
    let rest : take (length c.as_slice.result.now - at) (drop at c.as_slice.result.now) ≡ drop at c.self.inside.bytes =
    take_rest c.as_slice.result.now at ∙ ap (drop at) c.as_slice.ensures in
    let size : c.min-n.result ≤ length (drop at c.self.inside.bytes) = omega (arith, c.min-n.ensures, ap length rest) in
    ap Some (ap (λ s. s.left) (sym c.self.view_is) ∙ copied c.self.inside.bytes _ _ at c.min-n.result size (c.copy_from_slice.ensures.after ∙ ap (take c.min-n.result) rest))
