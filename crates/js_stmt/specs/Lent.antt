-- What a row in code lends is its node's, and what its frame keeps.
use Rattle.std.specs.Prelude.{◌≡◌, Bool, true, false, Option, Some, None}
use Rattle.js_tree.specs.Arena.{Arena, node_at}
use Rattle.js_tree.specs.TreeAt.{tree_at}
use Rattle.js_tree.specs.declared.node.Guarded.{Guarded}
use Rattle.js_tree.specs.declared.node.Node.{Node}
use Rattle.js_tree.specs.declared.node.Node.TheVariants as node
use Rattle.js_tree.specs.declared.node.NodeId.{NodeId}
use Rattle.js_term.specs.declared.completion.Completion.{Completion}
use Rattle.js_stmt.specs.Syntax.{name_of_target}
use Rattle.js_stmt.specs.declared.kept.StmtKept.{StmtKept}
use Rattle.js_stmt.specs.declared.kept.StmtKept.TheVariants as kept
use Rattle.js_stmt.specs.declared.phase.StmtPhase.{StmtPhase}
use Rattle.js_stmt.specs.declared.phase.StmtPhase.TheVariants as phase
use Rattle.js_stmt.specs.declared.row.ForInParts.{ForInParts}
use Rattle.js_stmt.specs.declared.row.Labelling.{Labelling}
use Rattle.js_stmt.specs.declared.row.LoopParts.{LoopParts}
use Rattle.js_stmt.specs.declared.row.StmtRow.{StmtRow}
use Rattle.js_stmt.specs.declared.row.StmtRow.TheVariants as code
use Rattle.js_stmt.specs.declared.row.SwitchParts.{SwitchParts}

-- ls: where the labels stand directly around the node.
module _ (ls : Labelling) where
  -- the parts of a loop
  abbrev pub node_loop : Option Node → Option LoopParts
  node_loop (Some (node.DoWhile s e)) =
      Some (record { start = None; test = Some e; update = None; body = s; labelling = ls })
  node_loop (Some (node.While e s)) =
      Some (record { start = None; test = Some e; update = None; body = s; labelling = ls })
  node_loop (Some (node.For x y z s)) =
      Some (record { start = x; test = y; update = z; body = s; labelling = ls })
  node_loop n = None

  -- the parts are those of a node that is a switch
  abbrev pub IsSwitchOf : Option Node → SwitchParts → Type 0
  IsSwitchOf (Some (node.Switch e cs)) s = (s.clauses.now ≡ cs) × (s.labelling ≡ ls)
  IsSwitchOf n s = ⊥

  -- of a node that is a for-in of a variable
  abbrev pub IsForInOf : Arena → Option Node → ForInParts → Type 0
  IsForInOf a (Some (node.ForIn x e s)) f =
      (name_of_target (tree_at a x) ≡ Some f.name.now) × (f.body ≡ s) × (f.labelling ≡ ls)
  IsForInOf a n f = ⊥

-- of a node that is a try
abbrev pub IsTryOf : Option Node → Guarded → Type 0
IsTryOf (Some (node.Try b)) g = b.value ≡ g
IsTryOf n g = ⊥

-- what a row that goes on in another phase lends is this node's, and what is kept
abbrev pub IsLentOf : Arena → Labelling → Option Node → StmtKept → StmtRow → Type 0
IsLentOf a ls n k (code.Var ds i) = n ≡ Some (node.Var ds.now)
IsLentOf a ls n k (code.DoWhile l) = node_loop ls n ≡ Some l
IsLentOf a ls n k (code.While l) = node_loop ls n ≡ Some l
IsLentOf a ls n k (code.For l) = node_loop ls n ≡ Some l
IsLentOf a ls n k (code.LoopStart l) = node_loop ls n ≡ Some l
IsLentOf a ls n k (code.LoopTest l) = node_loop ls n ≡ Some l
IsLentOf a ls n k (code.LoopBody l) = node_loop ls n ≡ Some l
IsLentOf a ls n k (code.LoopUpdate l) = node_loop ls n ≡ Some l
IsLentOf a ls n k (code.ForIn f) = IsForInOf ls a n f
IsLentOf a ls n k (code.ForInNames f v xs i) =
    IsForInOf ls a n f × (k ≡ kept.Names v.now xs.now)
IsLentOf a ls n k (code.Switch s) = IsSwitchOf ls n s
IsLentOf a ls n k (code.Case s i) = IsSwitchOf ls n s
IsLentOf a ls n k (code.Try g) = IsTryOf n g.now
IsLentOf a ls n k (code.Catch s g) = IsTryOf n g.now
IsLentOf a ls n k r = Unit {0}

-- the node of this number; outermost: the outermost labelled statement directly around it, or the
-- node itself
abbrev pub IsLent : Arena → NodeId → (outermost : NodeId) → StmtKept → StmtRow → Type 0
IsLent a id outermost k r =
    IsLentOf a (record { outermost = outermost; statement = id }) (node_at a id) k r

-- what is kept over `finally`
abbrev pub kept_over : Option Completion → StmtKept
kept_over (Some c) = kept.Completion c
kept_over None = kept.Nothing

-- the phases whose operands run in a context of their own
abbrev pub runs_within : StmtPhase → Bool
runs_within (phase.Catch s) = true
runs_within phase.Body = true
runs_within p = false
