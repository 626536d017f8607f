use Rattle.std.proofs.Common.{◌≤◌, length, arith, ap, subst, sym, ◌∙◌}
use Rattle.js_term.specs.Evaluation.{Evaluation, again}
use Rattle.js_term.proofs.Values.{again_seen}
use Rattle.js_term.proofs.operands.Operands.turn_back.Goals as goal

pub invariant_of-self : goal.invariant_of-self
invariant_of-self c =
    let P : Evaluation → Type 0 = λ e. c.args.index ≤ length e.done in
    let seen = again_seen c.args.index c.self.inside.count c.self.inside.all.items c.self.invariant.0 c.self.invariant.1 (subst P (sym c.self.view_is) c.requires) in
    (omega (arith, seen.2, c.self.invariant.0), seen.1)

pub returns : goal.returns
returns c =
    let P : Evaluation → Type 0 = λ e. c.args.index ≤ length e.done in
    let seen = again_seen c.args.index c.self.inside.count c.self.inside.all.items c.self.invariant.0 c.self.invariant.1 (subst P (sym c.self.view_is) c.requires) in
    seen.0 ∙ ap (again c.args.index) c.self.view_is
