-- How many steps scripts take, computed from the table.
use Rattle.std.specs.Prelude.{ℕ, [], Option, Some, None, pos}
use Rattle.js_value.specs.declared.number.Num.TheVariants.{Whole}
use Rattle.js_value.specs.declared.value.Value.{Value}
use Rattle.js_value.specs.declared.value.Value.TheVariants as value
use Rattle.js_heap.specs.World.{World}
use Rattle.js_reference.specs.Errors.{Answer}
use Rattle.js_reference.specs.Errors.Answer.{Returns, Throws}
use Rattle.js_calls.specs.Programs.{declare_program}
use Rattle.js_term.specs.Contraction.{Contraction}
use Rattle.js_term.specs.Contraction.Contraction.{Steps}
use Rattle.js_term.specs.Place.{Placed}
use Rattle.js_term.specs.Place.Place.{At}
use Rattle.js_term.specs.Table.{Table}
use Rattle.js_term.specs.Term.Term.{Stop, Val}
use Rattle.js_term.specs.declared.completion.Completion.TheVariants.{Throw}
use Rattle.js_tree.specs.Trees.{Tree}
use Rattle.js_rows.specs.Outside.{Outside}
use Rattle.js_rows.specs.Row.{Row}
use Rattle.js_rows.specs.Rows.{all_rows}
use Rattle.js_rows.specs.Runs.{steps}
use Rattle.js_rows.specs.Syntax.{term_at}
use Rattle.js_rows.specs.inner.Scripts.{declarations, function_at}
use Rattle.js_rows.specs.inner.SmallHost.{Lines, NoForm, small, start, top}

abbrev rows : Table (Placed (Row NoForm)) Lines
rows = all_rows (small function_at)

-- the world in which the functions are declared
abbrev pub world_of : Answer Lines → World
world_of (Returns v w h) = w
world_of (Throws v w h) = w

abbrev pub declared : World
declared =
    let outside : Outside NoForm Lines = small function_at in
    world_of (declare_program outside.own outside.handler 0 declarations start [])

-- the lines where a statement is finished after so many steps, and none before and behind
abbrev pub lines_if_finished : Contraction (Placed (Row NoForm)) Lines → Option Lines
lines_if_finished (Steps hidden (Val v) w h) = Some h
lines_if_finished o = None

abbrev pub lines_after : ℕ → Tree → Option Lines
lines_after n t = lines_if_finished (steps rows top n (term_at (At 0 0) t) declared [])

-- the value that a statement throws after so many steps
abbrev pub value_if_thrown : Contraction (Placed (Row NoForm)) Lines → Option Value
value_if_thrown (Steps hidden (Stop (Throw v)) w h) = Some v
value_if_thrown o = None

abbrev pub thrown_after : ℕ → Tree → Option Value
thrown_after n t = value_if_thrown (steps rows top n (term_at (At 0 0) t) declared [])

abbrev pub whole : ℕ → Value
whole n = value.Num (Whole (pos n))
