-- What a call comes to (ECMA-262 edition 5.1, 11.2.2, 11.2.3, 13.2.1, 15.3.4.5.1): a page's function makes its scope and becomes its body, a bound
-- function becomes the call of its target, a native does what the host says. `new` of a bound function throws, as a call of anything else does.
use Rattle.std.specs.Prelude.{◌∷◌, ◌++◌, Option, Some, if◌then◌else◌}
use Rattle.js_value.specs.Image.{image}
use Rattle.js_value.specs.declared.value.NativeId.{NativeId}
use Rattle.js_value.specs.declared.value.Value.{Value}
use Rattle.js_value.specs.declared.value.Value.TheVariants as value
use Rattle.js_heap.specs.World.{World}
use Rattle.js_heap.specs.declared.class.Bound.{Bound}
use Rattle.js_heap.specs.declared.class.Class.{Class}
use Rattle.js_heap.specs.declared.class.Class.TheVariants as class
use Rattle.js_heap.specs.declared.class.Code.{Code}
use Rattle.js_host.specs.declared.call.NativeCall.{NativeCall}
use Rattle.js_reference.specs.Callables.{class_at}
use Rattle.js_reference.specs.declared.error.ErrorName.TheVariants.{TypeError}
use Rattle.js_term.specs.Place.{Place, Placed}
use Rattle.js_term.specs.Place.Place.{At}
use Rattle.js_term.specs.Table.{Step}
use Rattle.js_term.specs.Table.Step.{Gives}
use Rattle.js_term.specs.Term.{after}
use Rattle.js_term.specs.Term.Term.{Node}
use Rattle.js_term.specs.Term.Terms.{Nil}
use Rattle.js_operands.specs.Rows.ExprRow.{CallOn}
use Rattle.js_operands.specs.Setting as expressions
use Rattle.js_operands.specs.Steps.{throw_step}
use Rattle.js_calls.specs.Calls.{call_function, function_in}
use Rattle.js_stmt.specs.Made.{step_of}
use Rattle.js_stmt.specs.Setting as statements
use Rattle.js_rows.specs.Outside.{Outside}
use Rattle.js_rows.specs.Row.{Row}
use Rattle.js_rows.specs.Syntax.{expression_row, statement_node, term_at}

-- how the rows of statements stand among all rows
abbrev pub for_statements : {F : Type 0} → statements.Setting (Placed (Row F))
for_statements = record { node = statement_node; term = term_at }

module _ {F H : Type 0} (O : Outside F H) where
  module _ (p : Place) (w : World) (h : H) (f : Value) (q : NativeCall) where
    -- a page's function is called at its own place
    abbrev pub call_page : Code → Step (Placed (Row F)) H
    call_page code =
        step_of for_statements (At code.text code.node)
        (call_function O.own O.asks w h code (function_in (O.function code.text code.node))
        (image f) q.construct q.this q.args)

    -- the call of a bound function's target, in its place
    abbrev pub call_target : Bound → Step (Placed (Row F)) H
    call_target b =
        if q.construct then throw_step TypeError w h
        else Gives (Node (expression_row p CallOn) (after (b.f ∷ b.this ∷ (b.args ++ q.args)) Nil)) w h

    -- a native that may be called so does what its host says
    abbrev pub call_native : NativeId → Step (Placed (Row F)) H
    call_native n =
        if O.refuses n q.construct then throw_step TypeError w h else O.native w h n q

    abbrev pub call_class : Option Class → Step (Placed (Row F)) H
    call_class (Some (class.Function code)) = call_page code
    call_class (Some (class.Bound b)) = call_target b
    call_class (Some (class.Builtin (Some n))) = call_native n
    call_class k = throw_step TypeError w h

    abbrev pub call_image : Value → Step (Placed (Row F)) H
    call_image (value.Ref o) = call_class (class_at w o)
    call_image (value.Native n) = call_native n
    call_image v = throw_step TypeError w h

    abbrev pub call : Step (Placed (Row F)) H
    call = call_image (image f)

  -- what the rows of expressions are given
  abbrev pub for_expressions : expressions.Setting (Placed (Row F)) H
  for_expressions = record {
    facts = record { own = O.own; wants = O.wants };
    row = expression_row;
    term = term_at;
    call = call;
  }
