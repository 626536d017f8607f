-- Nodes of the arenas of texts, and values, as operands to come.
use Rattle.std.specs.Prelude.{ℕ, List, [], Bool}
use Rattle.js_value.specs.declared.value.Value.{Value}
use Rattle.js_value.specs.declared.value.Value.TheVariants.{Undefined}
use Rattle.js_tree.specs.Arena.{Arena}
use Rattle.js_tree.specs.TreeAt.{tree_at}
use Rattle.js_tree.specs.Trees.{Tree}
use Rattle.js_tree.specs.Trees.Tree.{Made}
use Rattle.js_tree.specs.declared.node.NodeId.{NodeId}
use Rattle.js_tree.specs.declared.production.Production.{Production}
use Rattle.js_term.specs.ArenaOperands.{begun_as}
use Rattle.js_term.specs.Evaluation.{focused}
use Rattle.js_term.specs.Frames.{Focus}
use Rattle.js_term.specs.Frames.Focus.{Alone}
use Rattle.js_term.specs.Moves.{Syntax}
use Rattle.js_term.specs.Operands.{Labels, term_of, weight}
use Rattle.js_term.specs.Place.{Place}
use Rattle.js_term.specs.Place.Place.{At}
use Rattle.js_term.specs.Term.{Term}
use Rattle.js_term.specs.Term.Term.{Val}
use Rattle.js_term.specs.declared.begun.Begun.{Begun}
use Rattle.js_term.specs.declared.begun.Begun.TheVariants as begun
use Rattle.js_term.specs.declared.operands.Operand.{Operand}
use Rattle.js_term.specs.declared.operands.Operand.TheVariants as operand

-- a node that has begun, at the top of a stack: its value, or its row with its operands
abbrev pub begun_focus : {R : Type 0} → R → Begun → Focus R Operand
begun_focus r (begun.Value v) = Alone (Val v)
begun_focus r (begun.Operands e) = focused r e

module _ {R : Type 0} (no_step : R → Bool) (row : Labels → Place → Production → Tree → R) where
  abbrev pub operand_term : (text : ℕ) → Labels → Arena → Operand → Term R
  operand_term x ls arena (operand.Value v) = Val v
  operand_term x ls arena (operand.Node id) = term_of no_step row x ls (tree_at arena id)

  abbrev pub tree_focus : (text : ℕ) → Labels → Tree → Begun → Focus R Operand
  tree_focus x ls (Made p u v ts) b = begun_focus (row ls (At x u) p ts) b
  tree_focus x ls t b = Alone (Val Undefined)

  abbrev pub operand_focus : (text : ℕ) → Labels → Arena → Operand → Focus R Operand
  operand_focus x ls arena (operand.Value v) = Alone (Val v)
  operand_focus x ls arena (operand.Node id) =
      tree_focus x ls (tree_at arena id) (begun_as arena id)

abbrev pub operand_weight : Arena → Operand → ℕ
operand_weight arena (operand.Value v) = 2
operand_weight arena (operand.Node id) = weight (tree_at arena id)

-- `text` gives the text of a row, `labels` the labels that stand directly around its operands, and
-- `arenas` the arena of each text
abbrev pub arena_syntax : {R : Type 0} → (R → Bool) → (Labels → Place → Production → Tree → R)
    → (text : R → ℕ) → (labels : R → Labels) → (arenas : ℕ → Arena) → Syntax R Operand
arena_syntax no_step row text labels arenas = record {
  term = λ r x. operand_term no_step row (text r) (labels r) (arenas (text r)) x;
  begins = λ r x. operand_focus no_step row (text r) (labels r) (arenas (text r)) x;
  weight = λ r. operand_weight (arenas (text r));
}
