-- What code has of rows and moves, and what it stands for.
use Rattle.std.specs.Prelude.{List, [], ◌∷◌, ◌++◌, Option, Some, None, drop, is_some, map}
use Rattle.js_value.specs.declared.value.Value.{Value}
use Rattle.js_value.specs.declared.value.Value.TheVariants as value
use Rattle.js_heap.specs.World.{World}
use Rattle.js_host.specs.Names.{call_names}
use Rattle.js_term.specs.Evaluation.{Evaluation}
use Rattle.js_term.specs.declared.operands.Operand.{Operand}
use Rattle.js_term.specs.declared.operands.Operand.TheVariants as operand
use Rattle.js_tree.specs.Arena.{Arena}
use Rattle.js_tree.specs.TreeAt.{tree_at}
use Rattle.js_tree.specs.Trees.{Tree}
use Rattle.js_operands.specs.Made.{Conversion, Made}
use Rattle.js_operands.specs.Rows.{ExprRow}
use Rattle.js_operands.specs.declared.expr_move.Conversion as code_conversion
use Rattle.js_operands.specs.declared.expr_move.Conversion.TheVariants as conversion
use Rattle.js_operands.specs.declared.expr_move.ExprMove.{ExprMove}
use Rattle.js_operands.specs.declared.expr_move.ExprMove.TheVariants as move
use Rattle.js_operands.specs.declared.row.ExprRow as code_row
use Rattle.js_operands.specs.declared.row.ExprRow.TheVariants as code
use Rattle.js_operands.specs.declared.row.Method.{Method}
use Rattle.js_operands.specs.declared.row.Phase.{Phase}
use Rattle.js_operands.specs.declared.row.Phase.TheVariants as phase

-- the methods that are left
abbrev pub left_methods : Option Method → List Method
left_methods None = []
left_methods (Some m) = m ∷ []

-- a node's row in a later phase
abbrev pub later_row : ExprRow → Phase → ExprRow
later_row (ExprRow.ReviseName o x e) phase.Compute = ExprRow.ComputeName o x
later_row (ExprRow.ReviseMember o k e) phase.Compute = ExprRow.ComputeMember o k
later_row (ExprRow.ReviseIndex o e) phase.Compute = ExprRow.ComputeIndex o
later_row (ExprRow.ReviseName o x e) phase.Assign = ExprRow.AssignName x
later_row (ExprRow.ReviseMember o k e) phase.Assign = ExprRow.AssignMember k
later_row (ExprRow.ReviseIndex o e) phase.Assign = ExprRow.AssignIndex
later_row (ExprRow.ComputeName o x) phase.Assign = ExprRow.AssignName x
later_row (ExprRow.ComputeMember o k) phase.Assign = ExprRow.AssignMember k
later_row (ExprRow.ComputeIndex o) phase.Assign = ExprRow.AssignIndex
later_row (ExprRow.UpdateName u s x) phase.Store = ExprRow.StoreName u s x
later_row (ExprRow.UpdateMember u s k) phase.Store = ExprRow.StoreMember u s k
later_row (ExprRow.UpdateIndex u s) phase.Store = ExprRow.StoreIndex u s
later_row r phase.CallOn = ExprRow.CallOn
later_row r (phase.Convert k) = ExprRow.Convert k
later_row r (phase.Converting m) = ExprRow.Converting (left_methods m)
later_row r f = r

abbrev pub row_behind : ExprRow → Option Phase → ExprRow
row_behind r None = r
row_behind r (Some f) = later_row r f

-- the values and the nodes among operands to come
abbrev pub values_coming : List Operand → List Value
values_coming [] = []
values_coming (operand.Value v ∷ xs) = v ∷ values_coming xs
values_coming (operand.Node id ∷ xs) = values_coming xs

abbrev pub trees_coming : Arena → List Operand → List Tree
trees_coming a [] = []
trees_coming a (operand.Value v ∷ xs) = trees_coming a xs
trees_coming a (operand.Node id ∷ xs) = tree_at a id ∷ trees_coming a xs

abbrev pub conversion_as : code_conversion.Conversion → Conversion
conversion_as (conversion.Fails v) = Conversion.Fails v
conversion_as (conversion.Tries v f m) = Conversion.Tries v f (left_methods m)

-- of a row of an arena's text that had no operands to come: what the move makes, with the operands
-- that it leaves
abbrev pub made_of : Arena → ExprRow → Evaluation → ExprMove → World → {H : Type 0} → H → Made H
made_of a r e (move.Value v) w h = Made.Gives v w h
made_of a r e (move.Throws v) w h = Made.Throws v w h
made_of a r e (move.Becomes id) w h = Made.Becomes (tree_at a id) w h
made_of a r e (move.Converting k) w h = Made.Converting (conversion_as k) w h
made_of a r e (move.GoesOn f) w h =
    Made.GoesOn (later_row r f) e.done (trees_coming a e.todo) w h
made_of a r e (move.Converts f k) w h =
    Made.Converts (row_behind r f) e.done (conversion_as k) (values_coming (drop 1 e.todo)) w h
made_of a r e (move.Calls f c) w h = Made.Calls f c w h

-- of an early step, which throws, or converts the last of the values: what the move makes, with the
-- operands that it leaves; whatever is to come behind them is no part of it
abbrev pub early_made_of : ExprRow → Evaluation → ExprMove → World → {H : Type 0} → H → Made H
early_made_of r e (move.Throws v) w h = Made.Throws v w h
early_made_of r e (move.Converts f k) w h = Made.Converts r e.done (conversion_as k) [] w h
early_made_of r e m w h = Made.Gives value.Undefined w h

-- what a move names, in front of others
abbrev pub conversion_names : code_conversion.Conversion → List Value → List Value
conversion_names (conversion.Fails v) vs = v ∷ vs
conversion_names (conversion.Tries v f m) vs = v ∷ f ∷ vs

abbrev pub move_names : ExprMove → List Value → List Value
move_names (move.Value v) vs = v ∷ vs
move_names (move.Throws v) vs = v ∷ vs
move_names (move.Becomes id) vs = vs
move_names (move.Converting k) vs = conversion_names k vs
move_names (move.GoesOn f) vs = vs
move_names (move.Converts f k) vs = conversion_names k vs
move_names (move.Calls f c) vs = f ∷ call_names c vs

-- what a frame's operands name, in front of others
abbrev pub operand_names : Evaluation → List Value → List Value
operand_names e vs = (e.done ++ values_coming e.todo) ++ vs

-- a row of code, as a row
abbrev pub row_as : Arena → code_row.ExprRow → ExprRow
row_as a code.This = ExprRow.This
row_as a (code.Name x) = ExprRow.Name x.now
row_as a (code.Array es) = ExprRow.Array (map is_some es.now)
row_as a (code.Object es) = ExprRow.Object (map (λ e. e.key) es.now)
row_as a code.Function = ExprRow.Function
row_as a (code.Member k) = ExprRow.Member k.now
row_as a code.Index = ExprRow.Index
row_as a code.Call = ExprRow.Call
row_as a code.CallOn = ExprRow.CallOn
row_as a (code.CallMember k xs) = ExprRow.CallMember k.now (map (tree_at a) xs.now)
row_as a (code.CallIndex xs) = ExprRow.CallIndex (map (tree_at a) xs.now)
row_as a code.New = ExprRow.New
row_as a (code.AssignName x) = ExprRow.AssignName x.now
row_as a (code.AssignMember k) = ExprRow.AssignMember k.now
row_as a code.AssignIndex = ExprRow.AssignIndex
row_as a (code.ReviseName o x e) = ExprRow.ReviseName o x.now (tree_at a e)
row_as a (code.ReviseMember o k e) = ExprRow.ReviseMember o k.now (tree_at a e)
row_as a (code.ReviseIndex o e) = ExprRow.ReviseIndex o (tree_at a e)
row_as a (code.ComputeName o x) = ExprRow.ComputeName o x.now
row_as a (code.ComputeMember o k) = ExprRow.ComputeMember o k.now
row_as a (code.ComputeIndex o) = ExprRow.ComputeIndex o
row_as a (code.UpdateName u s x) = ExprRow.UpdateName u s x.now
row_as a (code.UpdateMember u s k) = ExprRow.UpdateMember u s k.now
row_as a (code.UpdateIndex u s) = ExprRow.UpdateIndex u s
row_as a (code.StoreName u s x) = ExprRow.StoreName u s x.now
row_as a (code.StoreMember u s k) = ExprRow.StoreMember u s k.now
row_as a (code.StoreIndex u s) = ExprRow.StoreIndex u s
row_as a (code.TypeOfName x) = ExprRow.TypeOfName x.now
row_as a (code.DeleteMember k) = ExprRow.DeleteMember k.now
row_as a code.DeleteIndex = ExprRow.DeleteIndex
row_as a (code.Unary o) = ExprRow.Unary o
row_as a (code.Binary o) = ExprRow.Binary o
row_as a (code.And e) = ExprRow.And (tree_at a e)
row_as a (code.Or e) = ExprRow.Or (tree_at a e)
row_as a (code.Conditional t u) = ExprRow.Conditional (tree_at a t) (tree_at a u)
row_as a (code.Comma e) = ExprRow.Comma (tree_at a e)
row_as a (code.Convert k) = ExprRow.Convert k
row_as a (code.Converting m) = ExprRow.Converting (left_methods m)
