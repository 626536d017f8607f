-- What the step of a row does, by which code finds its function.
use Rattle.js_control.specs.declared.contract.Kind.{Kind}
use Rattle.js_control.specs.declared.contract.Kind.TheVariants as kind
use Rattle.js_operands.specs.declared.row.ExprRow as code_row
use Rattle.js_operands.specs.declared.row.ExprRow.TheVariants as code

abbrev pub row_kind : code_row.ExprRow → Kind
row_kind code.This = kind.Literal
row_kind (code.Array es) = kind.Literal
row_kind (code.Object es) = kind.Literal
row_kind code.Function = kind.Literal
row_kind (code.Name x) = kind.Access
row_kind (code.Member k) = kind.Access
row_kind code.Index = kind.Access
row_kind (code.DeleteMember k) = kind.Access
row_kind code.DeleteIndex = kind.Access
row_kind (code.TypeOfName x) = kind.Access
row_kind code.Call = kind.Call
row_kind code.CallOn = kind.Call
row_kind (code.CallMember k xs) = kind.Call
row_kind (code.CallIndex xs) = kind.Call
row_kind code.New = kind.Call
row_kind (code.AssignName x) = kind.Write
row_kind (code.AssignMember k) = kind.Write
row_kind code.AssignIndex = kind.Write
row_kind (code.StoreName o s x) = kind.Write
row_kind (code.StoreMember o s k) = kind.Write
row_kind (code.StoreIndex o s) = kind.Write
row_kind (code.ReviseName o x e) = kind.Revision
row_kind (code.ReviseMember o k e) = kind.Revision
row_kind (code.ReviseIndex o e) = kind.Revision
row_kind (code.ComputeName o x) = kind.Revision
row_kind (code.ComputeMember o k) = kind.Revision
row_kind (code.ComputeIndex o) = kind.Revision
row_kind (code.UpdateName o s x) = kind.Update
row_kind (code.UpdateMember o s k) = kind.Update
row_kind (code.UpdateIndex o s) = kind.Update
row_kind (code.Unary o) = kind.Operator
row_kind (code.Binary o) = kind.Operator
row_kind (code.Convert k) = kind.Operator
row_kind (code.Converting m) = kind.Operator
row_kind (code.And e) = kind.Choice
row_kind (code.Or e) = kind.Choice
row_kind (code.Conditional t u) = kind.Choice
row_kind (code.Comma e) = kind.Choice
