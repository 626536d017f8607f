use Rattle.js_stmt.proofs.Shaped.{ProgressShaped, move_shaped, names_shaped, next_there}
use Rattle.js_stmt.specs.Shapes.{IsNext}
use Rattle.js_stmt.specs.Steps.{only}
use Rattle.js_stmt.proofs.Brought.{listed_there, moved_there, scope_there, ProgressThere}
use Rattle.js_stmt.proofs.HeldParts.{arena_of, held_in, outermost}
use Rattle.js_stmt.specs.CodeRows.{labels_around}
use Rattle.js_stmt.specs.declared.row.StmtRow.TheVariants as code
use Rattle.js_tree.specs.TreeAt.{tree_at}
use Rattle.js_tree.specs.Trees.{at, one}
use Rattle.std.proofs.Common.{IfOk, ◌++◌, ap, subst, sym}
use Rattle.std.proofs.lemmas.Result.{IfOk-weaker}
use Rattle.js_host.specs.There.{AreThere}
use Rattle.js_reference.specs.Hosted.{hosted}
use Rattle.js_stmt.specs.CodeRows.{row_names}
use Rattle.js_stmt.specs.Made.{made}
use Rattle.js_stmt.specs.Parts.{Contracts}
use Rattle.js_stmt.specs.declared.row.StmtRow.{StmtRow}
use Rattle.js_stmt.proofs.MoveRows.{back_there, front_there}
use Rattle.js_stmt.proofs.contract.contract_world.Goals as goal

pub returns-in-Var-clause-value : goal.returns-in-Var-clause-value
returns-in-Var-clause-value g c = λ a.
    let P : StmtRow → Type 0 =
    λ r. IfOk c.initialised.result (λ m. Contracts (hosted g.H.Host.rows) c.args.scope a r
    c.args.operands.now c.args.heap.now c.args.host.now m c.initialised.new.operands
    c.initialised.new.heap c.initialised.new.host) in
    subst P (sym c.in-Var.is) (c.initialised.ensures.value a)

pub list_names-requires : goal.list_names-requires
list_names-requires g c =
    let w = c.args.heap.now in
    let held = g.H.Host.names.host c.args.host.now in
    let done = c.args.operands.now.done in
    front_there w done held
    (subst (λ r. AreThere w (row_names r (done ++ held))) c.in-ForIn.is c.requires.there)

pub returns-in-ForIn-clause-value : goal.returns-in-ForIn-clause-value
returns-in-ForIn-clause-value g c = λ a.
    let P : StmtRow → Type 0 =
    λ r. IfOk c.list_names.result (λ m. Contracts (hosted g.H.Host.rows) c.args.scope a r
    c.args.operands.now c.args.heap.now c.args.host.now m c.list_names.new.operands
    c.args.heap.now c.args.host.now) in
    subst P (sym c.in-ForIn.is)
    (IfOk-weaker c.list_names.result _ _
    (λ m makes. λ k h. ap (λ x. made x c.args.heap.now c.args.host.now) (makes k h))
    (c.list_names.ensures a))

pub returns-in-ForInNames-clause-value : goal.returns-in-ForInNames-clause-value
returns-in-ForInNames-clause-value g c = λ a.
    let P : StmtRow → Type 0 =
    λ r. IfOk c.into_name.result (λ m. Contracts (hosted g.H.Host.rows) c.args.scope a r
    c.args.operands.now c.args.heap.now c.args.host.now m c.into_name.new.operands
    c.into_name.new.heap c.into_name.new.host) in
    subst P (sym c.in-ForInNames.is) (c.into_name.ensures.value a)

pub initialised-requires-clause-there : goal.initialised-requires-clause-there
initialised-requires-clause-there g c =
    let w = c.args.heap.now in
    subst
    (λ r. AreThere w
    (row_names r (c.args.operands.now.done ++ g.H.Host.names.host c.args.host.now)))
    c.in-Var.is c.requires.there

pub into_name-requires-clause-there : goal.into_name-requires-clause-there
into_name-requires-clause-there g c =
    let w = c.args.heap.now in
    let held = g.H.Host.names.host c.args.host.now in
    let done = c.args.operands.now.done in
    let all = subst (λ r. AreThere w (row_names r (done ++ held))) c.in-ForInNames.is
    c.requires.there in
    (all.0, back_there w done held all.1)

pub returns-in-ForIn-clause-there : goal.returns-in-ForIn-clause-there
returns-in-ForIn-clause-there g c =
    let f = c.in-ForIn.parts in
    let p = one (at f.body) in
    let a = arena_of p in
    let w = c.args.heap.now in
    let vs = g.H.Host.names.host c.args.host.now in
    let done = c.args.operands.now.done in
    let t = subst (λ r. AreThere w (row_names r (done ++ vs))) c.in-ForIn.is c.requires.there in
    IfOk-weaker c.list_names.result _ _
    (λ m makes. moved_there w a outermost vs (code.ForIn f) c.list_names.new.operands m
    (subst (ProgressThere w vs) (sym (makes outermost (held_in p)))
    (listed_there w vs f.name.now (tree_at a f.body) (labels_around a f.labelling) done t)))
    (c.list_names.ensures a)

pub returns-in-ForIn-clause-scope : goal.returns-in-ForIn-clause-scope
returns-in-ForIn-clause-scope g c =
    let f = c.in-ForIn.parts in
    let p = one (at f.body) in
    let a = arena_of p in
    let w = c.args.heap.now in
    let vs = g.H.Host.names.host c.args.host.now in
    let done = c.args.operands.now.done in
    let t = subst (λ r. AreThere w (row_names r (done ++ vs))) c.in-ForIn.is c.requires.there in
    IfOk-weaker c.list_names.result _ _
    (λ m makes. scope_there w a outermost vs (code.ForIn f) c.list_names.new.operands m
    (subst (ProgressThere w vs) (sym (makes outermost (held_in p)))
    (listed_there w vs f.name.now (tree_at a f.body) (labels_around a f.labelling) done t)))
    (c.list_names.ensures a)

pub returns-in-ForIn-clause-phase : goal.returns-in-ForIn-clause-phase
returns-in-ForIn-clause-phase g c =
    let f = c.in-ForIn.parts in
    let p = one (at f.body) in
    let a = arena_of p in
    let w = c.args.heap.now in
    let vs = g.H.Host.names.host c.args.host.now in
    let done = c.args.operands.now.done in
    let t = subst (λ r. AreThere w (row_names r (done ++ vs))) c.in-ForIn.is c.requires.there in
    let P : StmtRow → Type 0 = λ r. IfOk c.list_names.result (λ m. IsNext r m) in
    subst P (sym c.in-ForIn.is)
    (IfOk-weaker c.list_names.result _ _
    (λ m makes. next_there a outermost w vs (code.ForIn f) c.list_names.new.operands m
    (subst (ProgressThere w vs) (sym (makes outermost (held_in p)))
    (listed_there w vs f.name.now (tree_at a f.body) (labels_around a f.labelling) done t)))
    (c.list_names.ensures a))

pub returns-in-ForIn-clause-shape : goal.returns-in-ForIn-clause-shape
returns-in-ForIn-clause-shape g c =
    let f = c.in-ForIn.parts in
    let p = one (at f.body) in
    let a = arena_of p in
    let w = c.args.heap.now in
    IfOk-weaker c.list_names.result _ _
    (λ m makes. move_shaped a outermost (code.ForIn f) c.list_names.new.operands m
    (subst ProgressShaped (sym (makes outermost (held_in p)))
    (names_shaped w f.name.now (tree_at a f.body) (labels_around a f.labelling)
    (only c.args.operands.now.done))))
    (c.list_names.ensures a)

pub returns-in-Var-clause-phase : goal.returns-in-Var-clause-phase
returns-in-Var-clause-phase g c =
    let P : StmtRow → Type 0 = λ r. IfOk c.initialised.result (λ m. IsNext r m) in
    subst P (sym c.in-Var.is) c.initialised.ensures.phase

pub returns-in-ForInNames-clause-phase : goal.returns-in-ForInNames-clause-phase
returns-in-ForInNames-clause-phase g c =
    let P : StmtRow → Type 0 = λ r. IfOk c.into_name.result (λ m. IsNext r m) in
    subst P (sym c.in-ForInNames.is) c.into_name.ensures.phase
