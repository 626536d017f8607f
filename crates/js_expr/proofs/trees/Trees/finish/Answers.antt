use Rattle.std.proofs.Common.{◌∷◌, []}
use Rattle.js_expr.proofs.Making.{has_statements}
use Rattle.js_expr.proofs.Whole.{finished}
use Rattle.js_expr.proofs.trees.Trees.finish.Goals as goal

pub finish-requires : goal.finish-requires
finish-requires c = record {
  text = c.requires.0;
  there = has_statements c.args.self.now.script c.requires.1.1.bodies c.args.self.now.pieces (c.requires.1.0 ∷ []) c.requires.1.1.holds;
}

pub returns : goal.returns
returns c t h =
    finished c.args.self.now.script c.finish.new.script h.bodies c.args.self.now.pieces c.finish.new.self t h.read h.holds
    c.in_ok-finish.ensures c.count.ensures.ordered
