use Rattle.std.proofs.Common.{◌∷◌, refl, ap, ◌∙◌}
use Rattle.html_profile.proofs.Trees.{firsts_more, firsts_same}
use Rattle.html_profile.proofs.tree.firsts.Goals as goal
use Rattle.html_profile.proofs.tree.firsts.Goals.{then-branch+in_ok-push, else-branch}

pub loop-attribute-preserved : goal.loop-attribute-preserved
loop-attribute-preserved c =
    let names = c.loop-attribute.invariant.0 in
    let had = c.in_ok-add.ensures.added names c.loop-attribute.invariant.1 in
    let fresh = c.in_ok-add.ensures.new names c.loop-attribute.invariant.1 in
    elim c.if-branch.branch [
      | then-branch+in_ok-push w ↦ (
        c.as_slice.result.now ∷ names,
        had,
        firsts_more c.args.attributes.now c.loop-attribute.attribute-index c.attribute-item.result c.loop-attribute.kept.items c.if-branch.kept.items c.as_slice.result.now names
            c.in_ok-add.field-0 c.loop-attribute-test.true c.attribute-item.is c.loop-attribute.invariant.2 c.as_slice.ensures fresh _ refl w.if-branch.true (ap (λ k. k.items) w.kept-is ∙ w.in_ok-push.ensures.items),
      )
      | else-branch w ↦ (
        c.as_slice.result.now ∷ names,
        had,
        firsts_same c.args.attributes.now c.loop-attribute.attribute-index c.attribute-item.result c.loop-attribute.kept.items c.if-branch.kept.items c.as_slice.result.now names
            c.in_ok-add.field-0 c.loop-attribute-test.true c.attribute-item.is c.loop-attribute.invariant.2 c.as_slice.ensures fresh w.if-branch.false (ap (λ k. k.items) w.kept-is),
      )
    ]
