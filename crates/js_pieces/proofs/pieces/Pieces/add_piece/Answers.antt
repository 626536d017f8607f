use Rattle.std.proofs.Common.{OnOk, sym, subst}
use Rattle.js_pieces.specs.Lists.{Adds, MayAdd}
use Rattle.js_pieces.specs.Pieces.{sort_of}
use Rattle.js_pieces.proofs.Behind.{to_add}
use Rattle.js_pieces.proofs.pieces.Pieces.add_piece.Goals as goal

pub add_node-requires : goal.add_node-requires
add_node-requires c = subst (λ z. MayAdd (sort_of z) c.args.self.now) c.in-Node.is c.requires

pub returns-in-Node : goal.returns-in-Node
returns-in-Node c = subst (λ z. OnOk c.add_node.result (Adds z c.args.self.now c.add_node.new.self)) (sym c.in-Node.is) c.add_node.ensures

pub add_hole-requires : goal.add_hole-requires
add_hole-requires c = subst (λ z. MayAdd (sort_of z) c.args.self.now) c.in-Missing.is c.requires

pub returns-in-Missing : goal.returns-in-Missing
returns-in-Missing c = subst (λ z. OnOk c.add_hole.result (Adds z c.args.self.now c.add_hole.new.self)) (sym c.in-Missing.is) c.add_hole.ensures

pub add_word-requires : goal.add_word-requires
add_word-requires c = subst (λ z. MayAdd (sort_of z) c.args.self.now) c.in-Text.is c.requires

pub returns-in-Text : goal.returns-in-Text
returns-in-Text c = subst (λ z. OnOk c.add_word.result (Adds z c.args.self.now c.add_word.new.self)) (sym c.in-Text.is) c.add_word.ensures

pub add_named-requires : goal.add_named-requires
add_named-requires c = subst (λ z. MayAdd (sort_of z) c.args.self.now) c.in-Named.is c.requires

pub returns-in-Named : goal.returns-in-Named
returns-in-Named c = subst (λ z. OnOk c.add_named.result (Adds z c.args.self.now c.add_named.new.self)) (sym c.in-Named.is) c.add_named.ensures

pub add_case-requires : goal.add_case-requires
add_case-requires c = subst (λ z. MayAdd (sort_of z) c.args.self.now) c.in-Case.is c.requires

pub returns-in-Case : goal.returns-in-Case
returns-in-Case c = subst (λ z. OnOk c.add_case.result (Adds z c.args.self.now c.add_case.new.self)) (sym c.in-Case.is) c.add_case.ensures

pub unreachable-requires : goal.unreachable-requires
unreachable-requires c = to_add c.args.piece c.args.self.now c.requires c.in_default.not-Node c.in_default.not-Missing c.in_default.not-Text c.in_default.not-Named c.in_default.not-Case
