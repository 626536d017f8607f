-- Three rows over a host that counts steps: an instance of what is said of any table.
use Rattle.std.specs.Prelude.{ℕ, suc, List, [], ◌∷◌, Bool, true, false, None}
use Rattle.js_value.specs.declared.value.Value.{Value}
use Rattle.js_value.specs.declared.value.Value.TheVariants.{Undefined}
use Rattle.js_heap.specs.World.{World}
use Rattle.js_term.specs.declared.completion.Completion.{Completion}
use Rattle.js_term.specs.declared.completion.Completion.TheVariants.{Throw}
use Rattle.js_term.specs.Images.{Images}
use Rattle.js_term.specs.Table.{Step, Table}
use Rattle.js_term.specs.Table.Step.{Gives}
use Rattle.js_term.specs.Term.{Term}
use Rattle.js_term.specs.Term.Term.{Val, Stop, Node}
use Rattle.js_term.specs.Term.Terms.{Nil, Cons}

-- Last gives its last operand's value, Statements has no step, Guard takes a throw
pub data Row : Type 0 where
  Last : Row
  Statements : Row
  Guard : Row

abbrev pub last_behind : Value → List Value → Value
last_behind v [] = v
last_behind v (u ∷ us) = last_behind u us

abbrev pub is_statements : Row → Bool
is_statements Statements = true
is_statements r = false

abbrev pub met : World → ℕ → Row → Completion → Step Row ℕ
met w h Guard (Throw v) = Gives (Val v) w (suc h)
met w h r k = Gives (Stop k) w (suc h)

abbrev pub three_rows : Table Row ℕ
three_rows = record {
  no_step = is_statements;
  inner = λ r c. c;
  is_early = λ r vs. false;
  early = λ c w h r vs ts. Gives (Val Undefined) w h;
  make = λ c w h r vs. Gives (Val (last_behind Undefined vs)) w (suc h);
  meets = λ c w h r k. met w h r k;
  enters = λ c w h r vs. None;
  before = λ w h f r vs. None;
  behind = λ h f stopped. None;
}

abbrev pub same_images : Images Row ℕ
same_images = record { row = λ r. r; world = λ w. w; host = λ h. h }

-- a list of one statement
abbrev pub statement : Term Row → Term Row
statement t = Node Statements (Cons t Nil)

abbrev pub pair : Value → Value → Term Row
pair u v = Node Last (Cons (Val u) (Cons (Val v) Nil))

abbrev pub guarded : Value → Term Row
guarded v = Node Guard (Cons (Stop (Throw v)) Nil)
