-- The moves of a stack that cost nothing: an operand begins, a value is taken, and a node that has
-- no step is finished.
use Rattle.std.specs.Prelude.{ℕ, ◌+◌, ◌<◌, ◌≡◌, true, List, [], ◌∷◌, ◌++◌, Bool, Option, Some, None}
use Rattle.js_value.specs.declared.value.Value.{Value}
use Rattle.js_value.specs.declared.value.Value.TheVariants.{Undefined}
use Rattle.js_term.specs.Term.{Term}
use Rattle.js_term.specs.Term.Term.{Val}
use Rattle.js_term.specs.Frames.{Focus, Frame, focus_term, reading}
use Rattle.js_term.specs.Frames.Focus.{Alone, Resting}
use Rattle.js_term.specs.Frames.Frame.{Waiting, Applying}
use Rattle.js_tree.specs.declared.production.Production.{Production}
use Rattle.js_tree.specs.Trees.{Tree}
use Rattle.js_tree.specs.Trees.Tree.{Made}
use Rattle.js_term.specs.Place.{Place}
use Rattle.js_term.specs.Place.Place.{At}
use Rattle.js_term.specs.Operands.{Labels, literal, operands, term_of, total, weight}

-- a stack, and what stands at its top
pub record Stack (R X : Type 0) : Type 0 where
  pub frames : List (Frame R X)
  pub focus : Focus R X

-- what an operand to come of a row stands for, how it begins, and how many free moves that takes at
-- most
pub record Syntax (R X : Type 0) : Type 0 where
  pub term : R → X → Term R
  pub begins : R → X → Focus R X
  pub weight : R → X → ℕ

pub data FreeMove (R X : Type 0) : Type 0 where
  Begin : List (Frame R X) → R → List Value → X → List X → FreeMove R X
  Take : List (Frame R X) → R → List Value → Value → List X → FreeMove R X
  Finish : List (Frame R X) → R → List Value → FreeMove R X

module _ {R X : Type 0} (S : Syntax R X) where
  abbrev pub before_move : FreeMove R X → Stack R X
  before_move (Begin fs r done x todo) = record { frames = fs; focus = Resting r done (x ∷ todo) }
  before_move (Take fs r done v todo) =
      record { frames = fs ++ Waiting r done todo ∷ []; focus = Alone (Val v) }
  before_move (Finish fs r done) = record { frames = fs; focus = Resting r done [] }

  abbrev pub after_move : FreeMove R X → Stack R X
  after_move (Begin fs r done x todo) =
      record { frames = fs ++ Waiting r done todo ∷ []; focus = S.begins r x }
  after_move (Take fs r done v todo) =
      record { frames = fs; focus = Resting r (done ++ v ∷ []) todo }
  after_move (Finish fs r done) = record { frames = fs; focus = Alone (Val Undefined) }

  abbrev pub frame_weight : Frame R X → ℕ
  frame_weight (Waiting r done todo) = 2 + total (S.weight r) todo
  frame_weight (Applying f) = 0

  abbrev pub focus_weight : Focus R X → ℕ
  focus_weight (Alone t) = 2
  focus_weight (Resting r done todo) = 3 + total (S.weight r) todo

  -- how many free moves a stack has at most
  abbrev pub stack_weight : Stack R X → ℕ
  stack_weight s = total frame_weight s.frames + focus_weight s.focus

  module _ (no_step : R → Bool) where
    -- a stack as a term
    abbrev pub stack_term : Stack R X → Term R
    stack_term s = reading no_step S.term s.frames (focus_term no_step S.term s.focus)

    -- only a node that has no step is finished for free
    abbrev pub IsAllowed : FreeMove R X → Type 0
    IsAllowed (Finish fs r done) = no_step r ≡ true
    IsAllowed m = Unit {0}

    -- what an operand begins as is the same term, and lighter
    pub record IsSyntax : Type 0 where
      pub same : (r : R) (x : X) → focus_term no_step S.term (S.begins r x) ≡ S.term r x
      pub lighter : (r : R) (x : X) → focus_weight (S.begins r x) < 1 + S.weight r x

-- trees as operands to come, where `text` gives the text of a row and `labels` the labels that
-- stand directly around its operands
module _ {R : Type 0} (row : Labels → Place → Production → Tree → R) where
  -- a node begins as its value, where it is a literal, or with none of its operands begun
  abbrev pub begun : (text unit : ℕ) → Labels → Production → Tree → Option Value → Focus R Tree
  begun x u ls p ts (Some v) = Alone (Val v)
  begun x u ls p ts None = Resting (row ls (At x u) p ts) [] (operands p ts)

  abbrev pub begun_tree : (text : ℕ) → Labels → Tree → Focus R Tree
  begun_tree x ls (Made p u v ts) = begun x u ls p ts (literal p ts)
  begun_tree x ls t = Alone (Val Undefined)

abbrev pub tree_syntax : {R : Type 0} → (R → Bool) → (Labels → Place → Production → Tree → R)
    → (text : R → ℕ) → (labels : R → Labels) → Syntax R Tree
tree_syntax no_step row text labels = record {
  term = λ r t. term_of no_step row (text r) (labels r) t;
  begins = λ r t. begun_tree row (text r) (labels r) t;
  weight = λ r. weight;
}
