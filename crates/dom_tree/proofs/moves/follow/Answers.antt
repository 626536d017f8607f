use Rattle.std.proofs.Common.{◌<◌, length, IfSome, sym, ap, subst, ◌∙◌}
use Rattle.dom_tree.specs.inner.Kept.{with_first, with_next, followed}
use Rattle.dom_tree.proofs.Items.{set_is_changed}
use Rattle.dom_tree.proofs.moves.follow.Goals as goal

pub returns-in-Some : goal.returns-in-Some
returns-in-Some c =
    let inside = subst (λ o. IfSome o (λ x. x < length c.args.nodes.now)) c.in-Some.is c.requires.at in
    set_is_changed (with_next c.args.next) c.in-Some.at c.args.nodes.now _ inside ∙ ap (λ o. followed c.args.parent o c.args.next c.args.nodes.now) (sym c.in-Some.is)

pub returns-in-None : goal.returns-in-None
returns-in-None c =
    set_is_changed (with_first c.args.next) c.args.parent c.args.nodes.now _ c.requires.parent ∙ ap (λ o. followed c.args.parent o c.args.next c.args.nodes.now) (sym c.in-None.is)
