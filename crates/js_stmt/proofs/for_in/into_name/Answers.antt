use Rattle.js_stmt.proofs.Shaped.{ProgressShaped, answer_shaped, move_shaped, next_there, node_part}
use Rattle.std.proofs.Common.{[], ◌∷◌, ◌+◌}
use Rattle.js_reference.proofs.There.{value_stays}
use Rattle.js_stmt.proofs.Brought.{answer_back, behind_write, moved_there, scope_there}
use Rattle.js_stmt.proofs.HeldParts.{arena_of, held_in, outermost}
use Rattle.js_stmt.specs.CodeRows.{names_passed, row_as}
use Rattle.js_stmt.specs.Made.Progress.{GoesOn}
use Rattle.js_tree.specs.Trees.{Part, at, one}
use Rattle.std.proofs.Common.{◌<◌, ap, length, subst, sym, ◌∙◌}
use Rattle.std.specs.Prelude.{IfSome}
use Rattle.std.proofs.lemmas.Result.{IfOk-weaker}
use Rattle.js_value.specs.declared.value.Value.TheVariants as value
use Rattle.js_reference.specs.Hosted.{hosted}
use Rattle.js_tree.specs.TreeAt.{tree_at}
use Rattle.js_stmt.specs.CodeRows.{labels_around, names_from}
use Rattle.js_stmt.specs.ForIn.{for_name}
use Rattle.js_stmt.specs.declared.row.StmtRow.TheVariants as code
use Rattle.js_stmt.proofs.Operated.{name_stepped}
use Rattle.js_stmt.proofs.for_in.into_name.Goals as goal

pub returns-clause-value : goal.returns-clause-value
returns-clause-value g c = λ a.
    let O = hosted g.H.Host.rows in
    let p = c.args.parts in
    let ks = c.args.names.now in
    let i = c.in-Some.at in
    let body = tree_at a p.body in
    let labels = labels_around a p.labelling in
    let within : i < length ks =
    subst (λ o. IfSome o (λ j. j < length ks)) c.in-Some.is c.in_ok-at.ensures.within in
    IfOk-weaker c.into_body.result _ _
    (λ m makes. λ k h.
    name_stepped O c.args.scope c.args.heap.now c.args.host.now
    (value.Text c.in_ok-copy.field-0) c.in_ok-answered.answered c.write_name.new.heap
    c.write_name.new.host c.args.object.now p.name.now body labels ks i c.index-names-at.result _
    within c.index-names-at.is (ap value.Text c.in_ok-copy.ensures)
    c.in_ok-answered.ensures.value (makes k)
    ∙ ap
    (for_name O c.args.heap.now c.args.host.now c.args.scope c.args.object.now p.name.now body labels)
    (ap (names_from ks) (sym c.in-Some.is) ∙ c.in_ok-at.ensures.value))
    (c.into_body.ensures a (code.ForInNames p c.args.object c.args.names c.args.passed))

pub returns-clause-there : goal.returns-clause-there
returns-clause-there g c =
    let a = arena_of Part.Nil in
    let w = c.write_name.new.heap in
    let vs = g.H.Host.names.host c.write_name.new.host in
    let x = c.in_ok-answered.answered in
    let t = c.in_ok-answered.ensures.there in
    let r = code.ForInNames c.args.parts c.args.object c.args.names c.args.passed in
    let next = GoesOn (row_as a outermost (names_passed (c.in-Some.at + 1) r)) []
    (tree_at a c.args.parts.body ∷ []) in
    let object = value_stays c.args.heap.now w c.args.object.now
    c.in_ok-answered.ensures.more.objects c.requires.there.0 in
    IfOk-weaker c.into_body.result _ _
    (λ m makes. moved_there w a outermost vs r c.into_body.new.operands m
    (behind_write w vs a outermost r c.into_body.new.operands m next x
    (makes outermost) (object, answer_back w vs x t) t))
    (c.into_body.ensures a r)

pub returns-clause-scope : goal.returns-clause-scope
returns-clause-scope g c =
    let a = arena_of Part.Nil in
    let w = c.write_name.new.heap in
    let vs = g.H.Host.names.host c.write_name.new.host in
    let x = c.in_ok-answered.answered in
    let t = c.in_ok-answered.ensures.there in
    let r = code.ForInNames c.args.parts c.args.object c.args.names c.args.passed in
    let next = GoesOn (row_as a outermost (names_passed (c.in-Some.at + 1) r)) []
    (tree_at a c.args.parts.body ∷ []) in
    let object = value_stays c.args.heap.now w c.args.object.now
    c.in_ok-answered.ensures.more.objects c.requires.there.0 in
    IfOk-weaker c.into_body.result _ _
    (λ m makes. scope_there w a outermost vs r c.into_body.new.operands m
    (behind_write w vs a outermost r c.into_body.new.operands m next x
    (makes outermost) (object, answer_back w vs x t) t))
    (c.into_body.ensures a r)

pub returns-clause-phase : goal.returns-clause-phase
returns-clause-phase g c =
    let a = arena_of Part.Nil in
    let w = c.write_name.new.heap in
    let vs = g.H.Host.names.host c.write_name.new.host in
    let x = c.in_ok-answered.answered in
    let t = c.in_ok-answered.ensures.there in
    let r = code.ForInNames c.args.parts c.args.object c.args.names c.args.passed in
    let next = GoesOn (row_as a outermost (names_passed (c.in-Some.at + 1) r)) []
    (tree_at a c.args.parts.body ∷ []) in
    let object = value_stays c.args.heap.now w c.args.object.now
    c.in_ok-answered.ensures.more.objects c.requires.there.0 in
    IfOk-weaker c.into_body.result _ _
    (λ m makes. next_there a outermost w vs r c.into_body.new.operands m
    (behind_write w vs a outermost r c.into_body.new.operands m next x
    (makes outermost) (object, answer_back w vs x t) t))
    (c.into_body.ensures a r)

pub returns-clause-shape : goal.returns-clause-shape
returns-clause-shape g c =
    let p = one (at c.args.parts.body) in
    let a = arena_of p in
    let x = c.in_ok-answered.answered in
    let r = code.ForInNames c.args.parts c.args.object c.args.names c.args.passed in
    let next =
    GoesOn (row_as a outermost (names_passed (c.in-Some.at + 1) r)) []
    (tree_at a c.args.parts.body ∷ []) in
    let body = node_part (tree_at a c.args.parts.body) (held_in p).0 in
    IfOk-weaker c.into_body.result _ _
    (λ m makes. move_shaped a outermost r c.into_body.new.operands m
    (subst ProgressShaped (sym (makes outermost)) (answer_shaped next x (body, tt))))
    (c.into_body.ensures a r)
