use Rattle.js_stmt.proofs.Shaped.{left_shaped, try_shaped}
use Rattle.js_stmt.specs.Shapes.{IsNext}
use Rattle.std.proofs.lemmas.Result.{IfOk-weaker}
use Rattle.js_host.specs.There.{AreThere}
use Rattle.js_stmt.proofs.CaughtThere.{left_there, try_there}
use Rattle.js_stmt.proofs.HeldParts.{outermost}
use Rattle.js_stmt.specs.CodeRows.{catch_as, completion_names, finally_as, row_names}
use Rattle.js_stmt.specs.Tries.{try_meets}
use Rattle.std.proofs.Common.{◌≡◌, IfOk, subst, sym}
use Rattle.js_reference.specs.Hosted.{hosted}
use Rattle.js_stmt.specs.CodeRows.{made_of, row_as}
use Rattle.js_stmt.specs.Make.{met_stmt}
use Rattle.js_stmt.specs.Parts.{IsHeld, Meets, row_parts}
use Rattle.js_stmt.specs.declared.row.StmtRow.{StmtRow}
use Rattle.js_stmt.specs.declared.row.StmtRow.TheVariants as code
use Rattle.js_stmt.proofs.MoveRows.{within_ok}
use Rattle.js_stmt.proofs.contract.meet_world.Goals as goal

pub returns-in-ForInNames-clause-value : goal.returns-in-ForInNames-clause-value
returns-in-ForInNames-clause-value g c =
    let P : StmtRow → Type 0 =
    λ r. IfOk c.for_in_met.result (λ m. Meets (hosted g.H.Host.rows) c.args.scope
    c.args.script.now r c.args.completion c.args.heap.now c.args.host.now m
    c.for_in_met.new.operands c.for_in_met.new.heap c.for_in_met.new.host) in
    subst P (sym c.in-ForInNames.is) c.for_in_met.ensures.value

pub returns-in-Try-clause-value : goal.returns-in-Try-clause-value
returns-in-Try-clause-value g c =
    let a = c.args.script.now in
    let r : StmtRow = code.Try c.in-Try.guarded in
    let P : StmtRow → Type 0 =
    λ x. IfOk c.try_met.result (λ m. Meets (hosted g.H.Host.rows) c.args.scope a x
    c.args.completion c.args.heap.now c.args.host.now m c.try_met.new.operands
    c.try_met.new.heap c.args.host.now) in
    subst P (sym c.in-Try.is)
    (within_ok c.try_met.result (λ k. IsHeld a (row_parts r))
    (λ k m. made_of a k r c.try_met.new.operands m c.try_met.new.heap c.args.host.now
    ≡ met_stmt (hosted g.H.Host.rows) c.args.scope c.args.heap.now c.args.host.now
    (row_as a k r) c.args.completion)
    (λ k h. c.try_met.ensures a k h))

pub returns-in-Try-clause-there : goal.returns-in-Try-clause-there
returns-in-Try-clause-there g c =
    let a = c.args.script.now in
    let s = c.args.scope in
    let w = c.args.heap.now in
    let h = c.args.host.now in
    let k = c.args.completion in
    let vs = g.H.Host.names.host h in
    let r : StmtRow = code.Try c.in-Try.guarded in
    let catch = catch_as a c.in-Try.guarded.now in
    let finally = finally_as a c.in-Try.guarded.now in
    let held = subst (λ x. IsHeld a (row_parts x)) c.in-Try.is c.requires.held in
    let t = subst (λ x. AreThere w (row_names x (completion_names k vs))) c.in-Try.is
    c.requires.there in
    IfOk-weaker c.try_met.result _ _
    (λ m is. (left_there s w h vs a outermost r c.try_met.new.operands m c.try_met.new.heap h
    (try_meets s w h catch finally k) is (try_there s w h vs catch finally k t)).0)
    (c.try_met.ensures a outermost held)

pub returns-in-Try-clause-scope : goal.returns-in-Try-clause-scope
returns-in-Try-clause-scope g c =
    let a = c.args.script.now in
    let s = c.args.scope in
    let w = c.args.heap.now in
    let h = c.args.host.now in
    let k = c.args.completion in
    let vs = g.H.Host.names.host h in
    let r : StmtRow = code.Try c.in-Try.guarded in
    let catch = catch_as a c.in-Try.guarded.now in
    let finally = finally_as a c.in-Try.guarded.now in
    let held = subst (λ x. IsHeld a (row_parts x)) c.in-Try.is c.requires.held in
    let t = subst (λ x. AreThere w (row_names x (completion_names k vs))) c.in-Try.is
    c.requires.there in
    IfOk-weaker c.try_met.result _ _
    (λ m is. (left_there s w h vs a outermost r c.try_met.new.operands m c.try_met.new.heap h
    (try_meets s w h catch finally k) is (try_there s w h vs catch finally k t)).1)
    (c.try_met.ensures a outermost held)

pub returns-in-Try-clause-more : goal.returns-in-Try-clause-more
returns-in-Try-clause-more g c =
    let a = c.args.script.now in
    let s = c.args.scope in
    let w = c.args.heap.now in
    let h = c.args.host.now in
    let k = c.args.completion in
    let vs = g.H.Host.names.host h in
    let r : StmtRow = code.Try c.in-Try.guarded in
    let catch = catch_as a c.in-Try.guarded.now in
    let finally = finally_as a c.in-Try.guarded.now in
    let held = subst (λ x. IsHeld a (row_parts x)) c.in-Try.is c.requires.held in
    let t = subst (λ x. AreThere w (row_names x (completion_names k vs))) c.in-Try.is
    c.requires.there in
    IfOk-weaker c.try_met.result _ _
    (λ m is. (left_there s w h vs a outermost r c.try_met.new.operands m c.try_met.new.heap h
    (try_meets s w h catch finally k) is (try_there s w h vs catch finally k t)).2)
    (c.try_met.ensures a outermost held)

pub returns-in-Try-clause-phase : goal.returns-in-Try-clause-phase
returns-in-Try-clause-phase g c =
    let a = c.args.script.now in
    let s = c.args.scope in
    let w = c.args.heap.now in
    let h = c.args.host.now in
    let k = c.args.completion in
    let vs = g.H.Host.names.host h in
    let r : StmtRow = code.Try c.in-Try.guarded in
    let catch = catch_as a c.in-Try.guarded.now in
    let finally = finally_as a c.in-Try.guarded.now in
    let held = subst (λ x. IsHeld a (row_parts x)) c.in-Try.is c.requires.held in
    let t = subst (λ x. AreThere w (row_names x (completion_names k vs))) c.in-Try.is
    c.requires.there in
    let P : StmtRow → Type 0 = λ x. IfOk c.try_met.result (λ m. IsNext x m) in
    subst P (sym c.in-Try.is)
    (IfOk-weaker c.try_met.result _ _
    (λ m is. (left_there s w h vs a outermost r c.try_met.new.operands m c.try_met.new.heap h
    (try_meets s w h catch finally k) is (try_there s w h vs catch finally k t)).3)
    (c.try_met.ensures a outermost held))

pub returns-in-Try-clause-shape : goal.returns-in-Try-clause-shape
returns-in-Try-clause-shape g c =
    let a = c.args.script.now in
    let s = c.args.scope in
    let w = c.args.heap.now in
    let h = c.args.host.now in
    let k = c.args.completion in
    let r : StmtRow = code.Try c.in-Try.guarded in
    let catch = catch_as a c.in-Try.guarded.now in
    let finally = finally_as a c.in-Try.guarded.now in
    let held = subst (λ x. IsHeld a (row_parts x)) c.in-Try.is c.requires.held in
    IfOk-weaker c.try_met.result _ _
    (λ m is. left_shaped s w h a outermost r c.try_met.new.operands m c.try_met.new.heap h
    (try_meets s w h catch finally k) is (try_shaped s w h catch finally k))
    (c.try_met.ensures a outermost held)

pub returns-in-ForInNames-clause-phase : goal.returns-in-ForInNames-clause-phase
returns-in-ForInNames-clause-phase g c =
    let P : StmtRow → Type 0 = λ r. IfOk c.for_in_met.result (λ m. IsNext r m) in
    subst P (sym c.in-ForInNames.is) c.for_in_met.ensures.phase
