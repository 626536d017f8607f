-- What is left to do: syntax in which values, completions and hidden forms stand (ECMA-262 edition
-- 5.1, clauses 11 to 14 and 8.9). A node is a row of any table over its operands, in the order in
-- which they are evaluated.
use Rattle.std.specs.Prelude.{ℕ, suc, List, [], ◌∷◌, Bool, true, false, ◌&&◌, cond}
use Rattle.js_value.specs.declared.value.HidId.{HidId}
use Rattle.js_value.specs.declared.value.Value.{Value}
use Rattle.js_value.specs.declared.value.Value.TheVariants.{Undefined}
use Rattle.js_term.specs.declared.completion.Completion.{Completion}

-- where a hidden function stands: the function, and how many statements it has executed, before its
-- apply or from it on
pub record Hidden : Type 0 where
  pub function : HidId
  pub statements : ℕ

abbrev pub start : HidId → Hidden
start f = record { function = f; statements = 0 }

abbrev pub next : Hidden → Hidden
next f = record { function = f.function; statements = suc f.statements }

-- Val: a value. Stop: a completion. Node: a row over its operands. Ready: a node whose operands are
-- values, at the hidden function that it enters, before the apply. Hold: what the apply has
-- brought, in the hidden function from the apply on. Hook: a hidden function without an apply,
-- before what it stands in front of.
mutual
  pub data Term (R : Type 0) : Type 0 where
    Val : Value → Term R
    Stop : Completion → Term R
    Node : R → Terms R → Term R
    Ready : Hidden → R → List Value → Term R
    Hold : Hidden → Term R → Term R
    Hook : Hidden → Term R → Term R

  pub data Terms (R : Type 0) : Type 0 where
    Nil : Terms R
    Cons : Term R → Terms R → Terms R

-- values, and then other operands
abbrev pub after : {R : Type 0} → List Value → Terms R → Terms R
after [] ts = ts
after (v ∷ vs) ts = Cons (Val v) (after vs ts)

abbrev pub is_value : {R : Type 0} → Term R → Bool
is_value (Val v) = true
is_value t = false

abbrev pub are_values : {R : Type 0} → Terms R → Bool
are_values Nil = true
are_values (Cons t ts) = is_value t && are_values ts

-- A row over its operands, where the first argument tells which rows have no step of their own:
-- such a node is finished as soon as its operands are. So lists of statements, blocks, and
-- expression statements cost nothing.
abbrev pub node : {R : Type 0} → (R → Bool) → R → Terms R → Term R
node no_step r ts = cond (no_step r && are_values ts) (Val Undefined) (Node r ts)

-- the terms of a list
abbrev pub terms : {X R : Type 0} → (X → Term R) → List X → Terms R
terms f [] = Nil
terms f (x ∷ xs) = Cons (f x) (terms f xs)
