-- The terms of expressions that stand at a place.
use Rattle.std.specs.Prelude.{[], ◌∷◌, Option, Some, None}
use Rattle.js_term.specs.declared.completion.Completion.TheVariants.{Throw}
use Rattle.js_term.specs.Place.{Place}
use Rattle.js_term.specs.Place.Place.{At, Host}
use Rattle.js_term.specs.Term.{Term, Terms, after}
use Rattle.js_term.specs.Term.Term.{Node, Stop, Val}
use Rattle.js_term.specs.Term.Terms.{Cons, Nil}
use Rattle.js_operands.specs.Made.{Conversion}
use Rattle.js_operands.specs.Rows.{ExprRow}
use Rattle.js_rows.specs.Hosted.{PageRow}
use Rattle.js_rows.specs.Syntax.{expression_row}
use Rattle.js_frames.specs.Arenas.{Arenas}
use Rattle.js_frames.specs.Rows.{unit_at}
use Rattle.js_frames.specs.declared.frame.Site.{Site}

-- where an expression stands
abbrev pub expression_place : Arenas → Option Site → Place
expression_place ts (Some s) = At s.text (unit_at ts (Some s))
expression_place ts None = Host

module _ {D : Type 0} (p : Place) where
  -- a node over its operands
  abbrev pub over : ExprRow → Terms (PageRow D) → Term (PageRow D)
  over r ts = Node (expression_row p r) ts

  -- the throw of a conversion, or the call of a method, in a node that takes its answer
  abbrev pub conversion_term : Conversion → Term (PageRow D)
  conversion_term (Conversion.Fails v) = Stop (Throw v)
  conversion_term (Conversion.Tries v f ms) =
      let call : Term (PageRow D) = over ExprRow.CallOn (after (f ∷ v ∷ []) Nil) in
      over (ExprRow.Converting ms) (Cons (Val v) (Cons call Nil))
