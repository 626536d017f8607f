use Rattle.std.proofs.Common.{sym, subst, ap, ◌≤◌, ◌∙◌}
use Rattle.js_frames.specs.Begun.{focus_by}
use Rattle.js_frames.proofs.Begun.{begun-nothing, frames-nothing}
use Rattle.js_frames.proofs.stack.Stack.begin_node.Goals as goal

pub returns-then-site-count-clause-frames : goal.returns-then-site-count-clause-frames
returns-then-site-count-clause-frames g c = λ ts e.
    c.set_focus.ensures.frames
    ∙ frames-nothing _ ts c.args.site c.args.outermost c.args.script.now
    c.args.self.now.frames.items e
    (subst (λ n. n ≤ c.args.site.node.number) c.count.ensures.is c.if-site-count.true)

pub returns-then-site-count-clause-focus : goal.returns-then-site-count-clause-focus
returns-then-site-count-clause-focus g c =
    c.set_focus.ensures.focus
    ∙ sym (ap focus_by (begun-nothing c.args.script.now c.args.site.node
    (subst (λ n. n ≤ c.args.site.node.number) c.count.ensures.is c.if-site-count.true)))
