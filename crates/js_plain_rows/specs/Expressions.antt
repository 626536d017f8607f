-- That the rows of expressions commute with the plain image.
use Rattle.std.specs.Prelude.{List, ◌≡◌, map}
use Rattle.js_value.specs.Image.{image}
use Rattle.js_value.specs.declared.value.Value.{Value}
use Rattle.js_heap.specs.World.{World}
use Rattle.js_host.specs.Images.{plain_world}
use Rattle.js_reference.specs.Own.{OwnProperties}
use Rattle.js_term.specs.Completions.{plain_context}
use Rattle.js_term.specs.Place.{Place}
use Rattle.js_term.specs.declared.context.Context.{Context}
use Rattle.js_operands.specs.Rows.{ExprRow}
use Rattle.js_operands.specs.Setting.{HostFacts}
use Rattle.js_control.specs.Make.{early_expr, expr_is_early, made_expr}
use Rattle.js_plain_rows.specs.Images.{plain_made}

-- the step of a node whose operands are values
abbrev pub ExpressionsCommute : {H : Type 0} → (H → H) → HostFacts H → Type 0
ExpressionsCommute {H} g F =
    (p : Place) (c : Context) (w : World) (h : H) (r : ExprRow) (vs : List Value)
    → made_expr F p (plain_context c) (plain_world w) (g h) r (map image vs)
    ≡ plain_made g (made_expr F p c w h r vs)

-- the step that a node makes behind its first operands, and whether it does
pub record EarlyCommute {H : Type 0} (g : H → H) (O : OwnProperties H) : Type 0 where
  pub is_early : (r : ExprRow) (vs : List Value) → expr_is_early r
      (map image vs) ≡ expr_is_early r vs
  pub early : (w : World) (h : H) (r : ExprRow) (vs : List Value)
      → early_expr O (plain_world w) (g h) r (map image vs)
      ≡ plain_made g (early_expr O w h r vs)
