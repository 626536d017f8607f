-- What each row of an expression makes whose operands are values, what its early step makes, and what
-- a completion does to it.
use Rattle.std.specs.Prelude.{Bool, false, List}
use Rattle.js_value.specs.declared.value.Value.{Value}
use Rattle.js_heap.specs.World.{World}
use Rattle.js_reference.specs.Own.{OwnProperties}
use Rattle.js_term.specs.declared.completion.Completion.{Completion}
use Rattle.js_term.specs.declared.context.Context.{Context}
use Rattle.js_term.specs.Place.{Place}
use Rattle.js_term.specs.Table.{Step}
use Rattle.js_term.specs.Term.{Terms}
use Rattle.js_term.specs.Term.Term.{Stop}
use Rattle.js_operands.specs.Made.{Made}
use Rattle.js_operands.specs.Rows.{ExprRow}
use Rattle.js_operands.specs.Setting.{HostFacts, Setting}
use Rattle.js_operands.specs.Steps.{step_before, step_of}
use Rattle.js_control.specs.Accesses.{delete_index_row, delete_member_row, index_row, member_row}
use Rattle.js_control.specs.Accesses.{name_row}
use Rattle.js_control.specs.Assignments.{assign_index_row, assign_member_row, assign_name_row}
use Rattle.js_control.specs.Assignments.{compute_index_row, compute_member_row, compute_name_row}
use Rattle.js_control.specs.Assignments.{revise_index_row, revise_member_row, revise_name_row}
use Rattle.js_control.specs.Assignments.{early_index, early_member, index_is_early, member_is_early}
use Rattle.js_control.specs.Calls.{call_index_row, call_member_row, call_on_row, call_row, new_row}
use Rattle.js_control.specs.Choices.{and_row, comma_row, conditional_row, or_row}
use Rattle.js_operands.specs.Conversions.{convert_row, converting_row}
use Rattle.js_control.specs.Literals.{array_row, function_row, object_row, this_row}
use Rattle.js_control.specs.Operators.{binary_row, type_of_name_row, unary_row}
use Rattle.js_control.specs.Updates.{store_index_row, store_member_row, store_name_row}
use Rattle.js_control.specs.Updates.{update_index_row, update_member_row, update_name_row}

-- F: of the host
module _ {H : Type 0} (F : HostFacts H) (p : Place) (c : Context) (w : World) (h : H) where
  abbrev pub made_expr : ExprRow → List Value → Made H
  made_expr ExprRow.This vs = this_row p c w h
  made_expr (ExprRow.Name x) vs = name_row F.own c w h x
  made_expr (ExprRow.Array es) vs = array_row w h es vs
  made_expr (ExprRow.Object es) vs = object_row w h es vs
  made_expr ExprRow.Function vs = function_row p c w h
  made_expr (ExprRow.Member k) vs = member_row F.own w h k vs
  made_expr ExprRow.Index vs = index_row F.own w h vs
  made_expr ExprRow.Call vs = call_row F w h vs
  made_expr ExprRow.CallOn vs = call_on_row F w h vs
  made_expr (ExprRow.CallMember k xs) vs = call_member_row F.own w h k xs vs
  made_expr (ExprRow.CallIndex xs) vs = call_index_row F.own w h xs vs
  made_expr ExprRow.New vs = new_row F w h vs
  made_expr (ExprRow.AssignName x) vs = assign_name_row F.own c w h x vs
  made_expr (ExprRow.AssignMember k) vs = assign_member_row F.own w h k vs
  made_expr ExprRow.AssignIndex vs = assign_index_row F.own w h vs
  made_expr (ExprRow.ReviseName o x e) vs = revise_name_row F.own c w h o x e vs
  made_expr (ExprRow.ReviseMember o k e) vs = revise_member_row F.own w h o k e vs
  made_expr (ExprRow.ReviseIndex o e) vs = revise_index_row F.own w h o e vs
  made_expr (ExprRow.ComputeName o x) vs = compute_name_row F.own w h o x vs
  made_expr (ExprRow.ComputeMember o k) vs = compute_member_row F.own w h o k vs
  made_expr (ExprRow.ComputeIndex o) vs = compute_index_row F.own w h o vs
  made_expr (ExprRow.UpdateName o s x) vs = update_name_row F.own c w h o s x vs
  made_expr (ExprRow.UpdateMember o s k) vs = update_member_row F.own w h o s k vs
  made_expr (ExprRow.UpdateIndex o s) vs = update_index_row F.own w h o s vs
  made_expr (ExprRow.StoreName o s x) vs = store_name_row F.own c w h o s x vs
  made_expr (ExprRow.StoreMember o s k) vs = store_member_row F.own w h o s k vs
  made_expr (ExprRow.StoreIndex o s) vs = store_index_row F.own w h o s vs
  made_expr (ExprRow.TypeOfName x) vs = type_of_name_row F.own c w h x
  made_expr (ExprRow.DeleteMember k) vs = delete_member_row F.own w h k vs
  made_expr ExprRow.DeleteIndex vs = delete_index_row F.own w h vs
  made_expr (ExprRow.Unary o) vs = unary_row F.own w h o vs
  made_expr (ExprRow.Binary o) vs = binary_row F.own w h o vs
  made_expr (ExprRow.And e) vs = and_row w h e vs
  made_expr (ExprRow.Or e) vs = or_row w h e vs
  made_expr (ExprRow.Conditional t u) vs = conditional_row w h t u vs
  made_expr (ExprRow.Comma e) vs = comma_row w h e
  made_expr (ExprRow.Convert k) vs = convert_row F.own w h k vs
  made_expr (ExprRow.Converting ms) vs = converting_row F.own w h ms vs

-- a completion that reaches an expression stands in its place
abbrev pub meets_expr : {R H : Type 0} → World → H → Completion → Step R H
meets_expr w h k = Step.Gives (Stop k) w h

-- which nodes make an early step, behind these operands
abbrev pub expr_is_early : ExprRow → List Value → Bool
expr_is_early (ExprRow.AssignMember k) vs = member_is_early vs
expr_is_early ExprRow.AssignIndex vs = index_is_early vs
expr_is_early r vs = false

module _ {H : Type 0} (O : OwnProperties H) (w : World) (h : H) where
  -- what that step makes of the node; no other has one
  abbrev pub early_expr : ExprRow → List Value → Made H
  early_expr ExprRow.AssignIndex vs = early_index O w h vs
  early_expr r vs = early_member O w h

module _ {R H : Type 0} (S : Setting R H) (p : Place) (c : Context) (w : World) (h : H) where
  -- the step of a node whose operands are values
  abbrev pub make_expr : ExprRow → List Value → Step R H
  make_expr r vs = step_of S p (made_expr S.facts p c w h r vs)

  -- the early step, with the operands behind
  abbrev pub make_early : ExprRow → List Value → Terms R → Step R H
  make_early r vs ts = step_before S p ts (early_expr S.facts.own w h r vs)
