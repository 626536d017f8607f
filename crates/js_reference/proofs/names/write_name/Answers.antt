use Rattle.std.proofs.Common.{IfOk, ap, subst}
use Rattle.js_heap.specs.Roots.{id_of}
use Rattle.js_reference.specs.Answers.{Gives}
use Rattle.js_reference.specs.Hosted.{hosted}
use Rattle.js_reference.proofs.Naming.{window_written}
use Rattle.js_reference.proofs.names.write_name.Goals as goal

pub returns-clause-value : goal.returns-clause-value
returns-clause-value g c =
    let given = c.write_object.ensures.value in
    let same = window_written (hosted g.H.Host.rows) c.args.heap.now c.assign.new.heap c.args.host.now c.args.scope c.args.name.now c.args.value c.root-window.result c.in_ok-assign.field-0 c.if-branch.false c.in_ok-assign.ensures (ap id_of c.root-window.ensures.number) in
    subst (λ row. IfOk c.write_object.result (λ a. Gives row a c.write_object.new.heap c.write_object.new.host)) same given
