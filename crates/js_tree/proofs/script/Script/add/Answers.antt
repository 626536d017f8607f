use Rattle.std.proofs.Common.{◌∷◌, [], ◌++◌, length, sym, ap, subst, ◌∙◌, arith}
use Rattle.js_tree.specs.Trees.{parts}
use Rattle.js_tree.specs.Arena.{Arena, IsWithin}
use Rattle.js_tree.proofs.Index.{node_kept}
use Rattle.js_tree.proofs.script.Script.add.Goals as goal

pub invariant_of-self-2 : goal.invariant_of-self-2
invariant_of-self-2 c =
    node_kept (record { kept = c.self.inside.nodes.items; pending = c.self.inside.pending.items; filled = c.self.inside.filled.items }) c.self.inside.functions c.self.invariant (omega arith)
    (record { node = c.args.node; from = c.args.from; to = c.args.to }) (subst (λ (a : Arena). IsWithin (length a.kept) (length a.pending) (parts c.args.node)) (sym c.self.view_is) c.requires) c.push_reserved.new.self.items
    (c.push_reserved.ensures.items ∙ ap (λ l. l ++ record { node = c.args.node; from = c.args.from; to = c.args.to } ∷ []) c.in_ok-reserve.ensures.items)
