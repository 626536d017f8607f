use Rattle.std.proofs.Common.{◌≡◌, true, false, Some, refl, ap, sym, ◌∙◌, arith, eq-eqb, ne_eqb}
use Rattle.std.proofs.Common.{[], slice_get}
use Rattle.std.specs.Prelude.{bytes_eq}
use Rattle.js_tree.specs.Arena.{node_at}
use Rattle.js_tree.specs.declared.node.Node.TheVariants as node
use Rattle.js_stmt.specs.CodeRows.{labels_up_to}
use Rattle.js_stmt.proofs.LabelsFound.{found_here, found_inwards, inner_below, no_further, reached}
use Rattle.js_stmt.proofs.labelling.has_label.Goals as goal

pub returns : goal.returns
returns c =
    let a = c.args.script.now in
    let s = c.args.labelling.statement in
    let n = c.loop-at.at in
    sym (c.loop-at.invariant.same
    ∙ reached a s c.count-nodes.ensures.ordered c.args.label.now n
    (eq-eqb n.number s.number c.loop-at-test.false))

pub returns-in-None : goal.returns-in-None
returns-in-None c =
    let a = c.args.script.now in
    let s = c.args.labelling.statement in
    let n = c.loop-at.at in
    sym (c.loop-at.invariant.same
    ∙ no_further a s c.count-nodes.ensures.ordered c.args.label.now n c.node.result.now
    (ne_eqb n.number s.number c.loop-at-test.true) c.node.ensures.is
    (c.in-None.ensures.none refl (labels_up_to a s n.number) []))

pub returns-then-eq : goal.returns-then-eq
returns-then-eq c =
    let a = c.args.script.now in
    let s = c.args.labelling.statement in
    let n = c.loop-at.at in
    let x = c.args.label.now in
    let l = c.in-Some.parts.label.now in
    let g : node_at a n ≡ Some (node.Labelled l c.in-Some.parts.body) =
    c.node.ensures.is ∙ ap Some c.in-Some.ensures.some in
    let h : bytes_eq x l ≡ true = cc in
    sym (c.loop-at.invariant.same
    ∙ found_here a s c.count-nodes.ensures.ordered x n l c.in-Some.parts.body
    (ne_eqb n.number s.number c.loop-at-test.true) g h)

pub loop-at-preserved : goal.loop-at-preserved
loop-at-preserved c =
    let a = c.args.script.now in
    let s = c.args.labelling.statement in
    let n = c.loop-at.at in
    let x = c.args.label.now in
    let l = c.in-Some.parts.label.now in
    let is = c.count-nodes.ensures.ordered in
    let g : node_at a n ≡ Some (node.Labelled l c.in-Some.parts.body) =
    c.node.ensures.is ∙ ap Some c.in-Some.ensures.some in
    let h : bytes_eq x l ≡ false = cc in
    let below = inner_below a s is n l c.in-Some.parts.body (slice_get a.kept n.number) refl g in
    let there = c.loop-at.invariant.there in
    record {
      there = omega (arith, below, there);
      same = c.loop-at.invariant.same
          ∙ found_inwards a s is x n l c.in-Some.parts.body
          (ne_eqb n.number s.number c.loop-at-test.true) g h;
    }

pub loop-at-smaller : goal.loop-at-smaller
loop-at-smaller c =
    let a = c.args.script.now in
    let s = c.args.labelling.statement in
    let n = c.loop-at.at in
    let l = c.in-Some.parts.label.now in
    let g : node_at a n ≡ Some (node.Labelled l c.in-Some.parts.body) =
    c.node.ensures.is ∙ ap Some c.in-Some.ensures.some in
    inner_below a s c.count-nodes.ensures.ordered n l c.in-Some.parts.body
    (slice_get a.kept n.number) refl g
