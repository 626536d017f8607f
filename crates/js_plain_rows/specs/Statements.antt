-- The plain images of the rows of statements, which may hold values, and that the rows commute with
-- them.
use Rattle.std.specs.Prelude.{List, Option, ◌≡◌, map}
use Rattle.std.specs.Option.{option_map}
use Rattle.js_value.specs.Image.{image}
use Rattle.js_value.specs.declared.value.Value.{Value}
use Rattle.js_heap.specs.World.{World}
use Rattle.js_heap.specs.declared.class.ScopeId.{ScopeId}
use Rattle.js_host.specs.Images.{plain_world}
use Rattle.js_reference.specs.Own.{OwnProperties}
use Rattle.js_term.specs.Completions.{plain_completion, plain_context}
use Rattle.js_term.specs.declared.completion.Completion.{Completion}
use Rattle.js_term.specs.declared.context.Context.{Context}
use Rattle.js_stmt.specs.Made.{Made, Progress, made}
use Rattle.js_stmt.specs.Make.{inner_stmt, made_stmt, met_stmt, stmt_has_no_step}
use Rattle.js_stmt.specs.Rows.{StmtRow}

abbrev pub plain_row : StmtRow → StmtRow
plain_row (StmtRow.ForInKeys v ks x b ls) = StmtRow.ForInKeys (image v) ks x b ls
plain_row (StmtRow.Finally k) = StmtRow.Finally (option_map plain_completion k)
plain_row (StmtRow.Body c m) = StmtRow.Body (plain_context c) (option_map image m)
plain_row r = r

abbrev pub plain_progress : Progress → Progress
plain_progress Progress.Finishes = Progress.Finishes
plain_progress (Progress.Completes k) = Progress.Completes (plain_completion k)
plain_progress (Progress.Gives v) = Progress.Gives (image v)
plain_progress (Progress.Becomes t) = Progress.Becomes t
plain_progress (Progress.GoesOn r vs ts) = Progress.GoesOn (plain_row r) (map image vs) ts

-- g: the image of what a host holds
module _ {H : Type 0} (g : H → H) where
  abbrev pub plain_step_made : Made H → Made H
  plain_step_made m = made (plain_progress m.progress) (plain_world m.world) (g m.host)

  -- made: the step of a row. met: what a completion does to it. no_step, inner: which rows have no
  -- step, and where operands run.
  pub record StatementsCommute (O : OwnProperties H) : Type 0 where
    pub made : (s : Option ScopeId) (w : World) (h : H) (r : StmtRow) (vs : List Value)
        → made_stmt O s (plain_world w) (g h) (plain_row r) (map image vs)
        ≡ plain_step_made (made_stmt O s w h r vs)
    pub met : (s : Option ScopeId) (w : World) (h : H) (r : StmtRow) (k : Completion)
        → met_stmt O s (plain_world w) (g h) (plain_row r) (plain_completion k)
        ≡ plain_step_made (met_stmt O s w h r k)
    pub no_step : (r : StmtRow) → stmt_has_no_step (plain_row r) ≡ stmt_has_no_step r
    pub inner : (r : StmtRow) (c : Context)
        → inner_stmt (plain_row r) (plain_context c) ≡ plain_context (inner_stmt r c)
