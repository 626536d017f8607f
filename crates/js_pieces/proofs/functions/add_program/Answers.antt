use Rattle.std.proofs.Common.{◌∙◌, subst, sym}
use Rattle.js_tree.specs.Trees.{Holds, nodes}
use Rattle.js_pieces.proofs.functions.add_program.Goals as goal

pub returns : goal.returns
returns c = record {
  scope = c.in_ok-scope-2.scope;
  scoped = λ b t h.
      c.in_ok-scope-2.ensures.ok ∙ c.in_ok-scope.ensures b t
      (subst (λ z. Holds b c.args.script.now.kept (nodes z) t) (sym c.as_slice.ensures) h);
  added = c.in_ok-add.ensures.ok;
}
