use Rattle.std.proofs.Common.{subst, sym}
use Rattle.js_stmt.proofs.Shaped.{ProgressShaped, answer_shaped, declared_shaped, move_shaped}
use Rattle.js_stmt.proofs.Shaped.{next_there, values_there}
use Rattle.std.proofs.Common.{◌+◌, drop}
use Rattle.js_stmt.proofs.Brought.{answer_back, behind_write, declared_there, moved_there}
use Rattle.js_stmt.proofs.Brought.{scope_there}
use Rattle.js_stmt.proofs.HeldParts.{arena_of, held_in, outermost}
use Rattle.js_stmt.proofs.MoveRows.{back_there}
use Rattle.js_stmt.specs.CodeRows.{declarators_as}
use Rattle.js_stmt.specs.Variables.{first_initialised, next_declared}
use Rattle.js_stmt.specs.declared.row.StmtRow.TheVariants as code
use Rattle.js_tree.specs.Trees.{declarators}
use Rattle.std.proofs.Common.{◌<◌, Some, ap, arith, length, ◌∙◌}
use Rattle.std.proofs.lemmas.Result.{IfOk-weaker}
use Rattle.js_reference.specs.Hosted.{hosted}
use Rattle.js_reference.specs.Names.{write_name}
use Rattle.js_tree.specs.declared.node.Declarator.{Declarator}
use Rattle.js_stmt.proofs.Operated.{var_stepped}
use Rattle.js_stmt.proofs.variables.initialised.Goals as goal

pub returns-clause-value : goal.returns-clause-value
returns-clause-value g c = λ a.
    let ds = c.args.declarators.now in
    let within : c.args.place < length ds = omega arith in
    IfOk-weaker c.written.result _ _
    (λ m makes. λ k h. var_stepped (hosted g.H.Host.rows) c.args.scope c.args.heap.now
    c.args.host.now c.in_ok-value-in-Some.value c.in_ok-answered.answered
    c.write_name.new.heap c.write_name.new.host a ds c.args.place
    c.index-declarators-place.result c.args.operands.now.done _ within
    c.index-declarators-place.is (ap Some c.in_ok-value-in-Some.ensures ∙ c.in-Some.ensures)
    (ap (λ (d : Declarator). write_name (hosted g.H.Host.rows) c.args.heap.now c.args.host.now
    c.args.scope d.name c.in_ok-value-in-Some.value) c.index-declarators-place.is
    ∙ c.in_ok-answered.ensures.value) (makes k h))
    (c.written.ensures a)

pub returns-then-place-declarators-clause-there : goal.returns-then-place-declarators-clause-there
returns-then-place-declarators-clause-there g c =
    back_there c.args.heap.now c.args.operands.now.done (g.H.Host.names.host c.args.host.now)
    c.requires.there

pub returns-in-None-clause-there : goal.returns-in-None-clause-there
returns-in-None-clause-there g c =
    back_there c.args.heap.now c.args.operands.now.done (g.H.Host.names.host c.args.host.now)
    c.requires.there

pub returns-clause-there : goal.returns-clause-there
returns-clause-there g c =
    let p = declarators c.args.declarators.now in
    let a = arena_of p in
    let w = c.write_name.new.heap in
    let vs = g.H.Host.names.host c.write_name.new.host in
    let x = c.in_ok-answered.answered in
    let t = c.in_ok-answered.ensures.there in
    let o = first_initialised (declarators_as a (drop (c.args.place + 1) c.args.declarators.now)) in
    let r = code.Var c.args.declarators c.args.place in
    IfOk-weaker c.written.result _ _
    (λ m makes. moved_there w a outermost vs r c.written.new.operands m
    (behind_write w vs a outermost r c.written.new.operands m (next_declared o) x
    (makes outermost (held_in p)) (declared_there w vs o (answer_back w vs x t)) t))
    (c.written.ensures a)

pub returns-clause-scope : goal.returns-clause-scope
returns-clause-scope g c =
    let p = declarators c.args.declarators.now in
    let a = arena_of p in
    let w = c.write_name.new.heap in
    let vs = g.H.Host.names.host c.write_name.new.host in
    let x = c.in_ok-answered.answered in
    let t = c.in_ok-answered.ensures.there in
    let o = first_initialised (declarators_as a (drop (c.args.place + 1) c.args.declarators.now)) in
    let r = code.Var c.args.declarators c.args.place in
    IfOk-weaker c.written.result _ _
    (λ m makes. scope_there w a outermost vs r c.written.new.operands m
    (behind_write w vs a outermost r c.written.new.operands m (next_declared o) x
    (makes outermost (held_in p)) (declared_there w vs o (answer_back w vs x t)) t))
    (c.written.ensures a)

pub returns-clause-phase : goal.returns-clause-phase
returns-clause-phase g c =
    let p = declarators c.args.declarators.now in
    let a = arena_of p in
    let w = c.write_name.new.heap in
    let vs = g.H.Host.names.host c.write_name.new.host in
    let x = c.in_ok-answered.answered in
    let t = c.in_ok-answered.ensures.there in
    let o = first_initialised (declarators_as a (drop (c.args.place + 1) c.args.declarators.now)) in
    let r = code.Var c.args.declarators c.args.place in
    IfOk-weaker c.written.result _ _
    (λ m makes. next_there a outermost w vs r c.written.new.operands m
    (behind_write w vs a outermost r c.written.new.operands m (next_declared o) x
    (makes outermost (held_in p)) (declared_there w vs o (answer_back w vs x t)) t))
    (c.written.ensures a)

pub returns-clause-shape : goal.returns-clause-shape
returns-clause-shape g c =
    let p = declarators c.args.declarators.now in
    let a = arena_of p in
    let x = c.in_ok-answered.answered in
    let ds = declarators_as a (drop (c.args.place + 1) c.args.declarators.now) in
    let next = next_declared (first_initialised ds) in
    let r = code.Var c.args.declarators c.args.place in
    IfOk-weaker c.written.result _ _
    (λ m makes. move_shaped a outermost r c.written.new.operands m
    (subst ProgressShaped (sym (makes outermost (held_in p)))
    (answer_shaped next x (declared_shaped (first_initialised ds) (values_there ds)))))
    (c.written.ensures a)
