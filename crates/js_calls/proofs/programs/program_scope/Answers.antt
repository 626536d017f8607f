use Rattle.std.proofs.Common.{Some, ap, ◌∙◌}
use Rattle.js_calls.proofs.NodeTrees.{program_read, program_there}
use Rattle.js_calls.proofs.programs.program_scope.Goals as goal

pub returns : goal.returns
returns c =
    c.deref.ensures
    ∙ program_read c.args.script.now c.count-nodes.ensures.ordered c.root.result
    c.in-Program.statements c.in-Program.scope c.root.ensures
    (c.node.ensures.is ∙ ap Some c.in-Program.is) c.requires

pub root-requires : goal.root-requires
root-requires c = program_there c.args.script.now c.requires
