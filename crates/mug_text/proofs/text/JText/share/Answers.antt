use Rattle.std.proofs.Common.{ℕ, ◌+◌, ◌≤◌, List, Vec, Global, length, slice_range, sym, ap, subst, ◌∙◌}
use Rattle.mug_text.proofs.Parts.{part_of_part}
use Rattle.mug_text.proofs.text.JText.share.Goals as goal

pub returns : goal.returns
returns c =
    let was = c.self.inside in
    let inner = subst (λ (l : List ℕ). c.args.to ≤ length l) (sym c.self.view_is) c.requires.within in
    ap (λ (v : Vec ℕ Global). slice_range v.items (was.from + c.args.from) (was.from + c.args.to)) c.in_ok-clone.ensures.cases
    ∙ part_of_part was.buffer.value.items was.from was.to c.args.from c.args.to c.self.invariant.0 c.self.invariant.1 c.requires.ordered inner
    ∙ ap (λ (l : List ℕ). slice_range l c.args.from c.args.to) c.self.view_is
