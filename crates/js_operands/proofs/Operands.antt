-- The operands of a frame, and what they name.
use Rattle.std.proofs.Common.{◌≡◌, ℕ, zero, suc, ◌≤◌, ◌<◌, ◌+◌, List, [], ◌∷◌, ◌++◌, Option, Some, None, Result, Ok, Err, IfOk, OnOk, length, map, slice_get, take, drop, refl, ap, sym, ◌∙◌, subst, arith}
use Rattle.js_value.specs.declared.value.Value.{Value}
use Rattle.js_heap.specs.Closed.{IsThere}
use Rattle.js_heap.specs.World.{World}
use Rattle.js_host.proofs.Lists.{each-append, each-left, each-right}
use Rattle.js_host.specs.There.{AreThere}
use Rattle.js_reference.proofs.There.{still_there}
use Rattle.js_reference.specs.Answers.{answered_names}
use Rattle.js_reference.specs.Later.{IsLater}
use Rattle.js_reference.specs.declared.answered.Answered.{Answered}
use Rattle.js_reference.specs.declared.answered.Answered.TheVariants as answered
use Rattle.js_term.specs.ArenaOperands.{as_operands}
use Rattle.js_term.specs.Evaluation.{Evaluation, and_then}
use Rattle.js_term.specs.declared.operands.Operand.{Operand}
use Rattle.js_term.specs.declared.operands.Operand.TheVariants as operand
use Rattle.js_tree.specs.Arena.{Arena}
use Rattle.js_tree.specs.TreeAt.{tree_at}
use Rattle.js_tree.specs.declared.node.NodeId.{NodeId}
use Rattle.js_operands.specs.Steps.{call_node}
use Rattle.js_operands.specs.ExprMoves.{later_row, made_of, operand_names, trees_coming, values_coming}
use Rattle.js_operands.specs.Rows.{ExprRow}
use Rattle.js_operands.specs.Steps.{operand_at}
use Rattle.js_operands.specs.declared.expr_move.ExprMove.TheVariants as move
use Rattle.js_operands.specs.declared.row.Phase.TheVariants as phase

-- each operand is there
pub operand_there : (w : World) (vs : List Value) (n : ℕ) → AreThere w vs → IsThere w (operand_at vs n)
operand_there w [] n a = tt
operand_there w (v ∷ vs) zero a = a.0
operand_there w (v ∷ vs) (suc n) a = operand_there w vs n a.1

-- and so it is among what a frame names
pub named_there : (w : World) (vs xs hs : List Value) (n : ℕ) → AreThere w ((vs ++ xs) ++ hs) → IsThere w (operand_at vs n)
named_there w vs xs hs n a = operand_there w vs n (each-left (IsThere w) vs xs (each-left (IsThere w) (vs ++ xs) hs a))

-- what a host names, of what a frame and it name
pub held_there : (w : World) (vs hs : List Value) → AreThere w (vs ++ hs) → AreThere w hs
held_there w vs hs a = each-right (IsThere w) vs hs a

-- an answer behind a step, with what the frame names
pub answer_there : {E : Type 0} (r : Result Answered E) (w w' : World) (vs hs hs' : List Value) → AreThere w (vs ++ hs) → OnOk r (IsLater w w') → IfOk r (λ a. AreThere w' (answered_names a hs')) → IfOk r (λ a. AreThere w' (answered_names a (vs ++ hs')))
answer_there (Ok (answered.Returns v)) w w' vs hs hs' a l b = (b.0, each-append (IsThere w') vs hs' (still_there w w' vs l.objects (each-left (IsThere w) vs hs a)) b.1)
answer_there (Ok (answered.Throws v)) w w' vs hs hs' a l b = (b.0, each-append (IsThere w') vs hs' (still_there w w' vs l.objects (each-left (IsThere w) vs hs a)) b.1)
answer_there (Err e) w w' vs hs hs' a l b = tt

no_more : (vs : List Value) → vs ++ [] ≡ vs
no_more [] = refl
no_more (v ∷ vs) = ap (λ us. v ∷ us) (no_more vs)

-- a value that an answer names is put behind the others
pub added_there : (w : World) (v : Value) (vs hs : List Value) → AreThere w (v ∷ ((vs ++ []) ++ hs)) → AreThere w (((vs ++ v ∷ []) ++ []) ++ hs)
added_there w v vs hs a =
    let others : AreThere w (vs ++ hs) = subst (λ us. AreThere w (us ++ hs)) (no_more vs) a.1 in
    let all : AreThere w ((vs ++ v ∷ []) ++ hs) = each-append (IsThere w) (vs ++ v ∷ []) hs (each-append (IsThere w) vs (v ∷ []) (each-left (IsThere w) vs hs others) (a.0, tt)) (each-right (IsThere w) vs hs others) in
    subst (λ us. AreThere w (us ++ hs)) (sym (no_more (vs ++ v ∷ []))) all

-- nodes to come are no values
pub nodes_coming : (ids : List NodeId) → values_coming (as_operands ids) ≡ []
nodes_coming [] = refl
nodes_coming (id ∷ ids) = nodes_coming ids

pub trees_of_nodes : (a : Arena) (ids : List NodeId) → trees_coming a (as_operands ids) ≡ map (tree_at a) ids
trees_of_nodes a [] = refl
trees_of_nodes a (id ∷ ids) = ap (λ ts. tree_at a id ∷ ts) (trees_of_nodes a ids)

pub later_call : (r : ExprRow) → later_row r phase.CallOn ≡ ExprRow.CallOn
later_call (ExprRow.ReviseName o x e) = refl
later_call (ExprRow.ReviseMember o k e) = refl
later_call (ExprRow.ReviseIndex o e) = refl
later_call (ExprRow.ComputeName o x) = refl
later_call (ExprRow.ComputeMember o k) = refl
later_call (ExprRow.ComputeIndex o) = refl
later_call (ExprRow.UpdateName u s x) = refl
later_call (ExprRow.UpdateMember u s k) = refl
later_call (ExprRow.UpdateIndex u s) = refl
later_call r = refl

-- the node of a call whose callee is read
pub call_made : {H : Type 0} (a : Arena) (r : ExprRow) (f b : Value) (xs : List NodeId) (e : Evaluation) (w : World) (h : H) → e ≡ record { done = f ∷ b ∷ []; todo = [] ++ as_operands xs }
    → call_node (map (tree_at a) xs) b f w h ≡ made_of a r e (move.GoesOn phase.CallOn) w h
call_made a r f b xs e w h is =
    let row : later_row r phase.CallOn ≡ ExprRow.CallOn = later_call r in
    let done : e.done ≡ f ∷ b ∷ [] = ap (λ x. x.done) is in
    let coming : trees_coming a e.todo ≡ map (tree_at a) xs = ap (λ x. trees_coming a x.todo) is ∙ trees_of_nodes a xs in
    cc

pub call_there : (w : World) (f b : Value) (vs : List Value) (xs : List NodeId) (e : Evaluation) (hs : List Value) → e ≡ record { done = f ∷ b ∷ []; todo = [] ++ as_operands xs } → IsThere w b → AreThere w (f ∷ (vs ++ hs))
    → AreThere w (operand_names e hs)
call_there w f b vs xs e hs is t a =
    let coming : values_coming e.todo ≡ [] = ap (λ x. values_coming x.todo) is ∙ nodes_coming xs in
    let done : e.done ≡ f ∷ b ∷ [] = ap (λ x. x.done) is in
    let same : operand_names e hs ≡ f ∷ b ∷ hs = ap (λ us. (us ++ values_coming e.todo) ++ hs) done ∙ ap (λ us. (f ∷ b ∷ us) ++ hs) coming in
    subst (AreThere w) (sym same) (a.0, (t, each-right (IsThere w) vs hs a.1))

-- behind an answer's value
pub added_names : (w : World) (x : Answered) (v : Value) (e e' : Evaluation) (hs : List Value) → x ≡ answered.Returns v → e.todo ≡ [] → e' ≡ record { done = e.done ++ v ∷ []; todo = [] }
    → AreThere w (answered_names x (operand_names e hs)) → AreThere w (operand_names e' hs)
added_names w x v e e' hs xs none is a =
    let P : Answered → Type 0 = λ y. AreThere w (answered_names y (operand_names e hs)) in
    let given : AreThere w (v ∷ operand_names e hs) = subst P xs a in
    let Q : List Operand → Type 0 = λ todo. AreThere w (v ∷ ((e.done ++ values_coming todo) ++ hs)) in
    let R : Evaluation → Type 0 = λ y. AreThere w (operand_names y hs) in
    subst R (sym is) (added_there w v e.done hs (subst Q none given))

-- and before a node
pub added_before : (w : World) (x : Answered) (v : Value) (id : NodeId) (e e' e'' : Evaluation) (hs : List Value) → x ≡ answered.Returns v → e.todo ≡ [] → e' ≡ record { done = e.done ++ v ∷ []; todo = [] } → e'' ≡ and_then (operand.Node id ∷ []) e'
    → AreThere w (answered_names x (operand_names e hs)) → AreThere w (operand_names e'' hs)
added_before w x v id e e' e'' hs xs none is then a =
    let R : Evaluation → Type 0 = λ y. AreThere w (operand_names y hs) in
    let added : AreThere w (operand_names (record { done = e.done ++ v ∷ []; todo = [] }) hs) = subst R is (added_names w x v e e' hs xs none is a) in
    let all : e'' ≡ and_then (operand.Node id ∷ []) (record { done = e.done ++ v ∷ []; todo = [] }) = then ∙ ap (and_then (operand.Node id ∷ [])) is in
    subst R (sym all) added

each_take : (w : World) (n : ℕ) (vs : List Value) → AreThere w vs → AreThere w (take n vs)
each_take w zero vs a = tt
each_take w (suc n) [] a = tt
each_take w (suc n) (v ∷ vs) a = (a.0, each_take w n vs a.1)

-- behind the first values alone
pub added_first : (w : World) (x : Answered) (v : Value) (n : ℕ) (e e1 e' : Evaluation) (hs : List Value) → x ≡ answered.Returns v → e.todo ≡ [] → e1 ≡ record { done = take n e.done; todo = [] } → e' ≡ record { done = e1.done ++ v ∷ []; todo = [] }
    → AreThere w (answered_names x (operand_names e hs)) → AreThere w (operand_names e' hs)
added_first w x v n e e1 e' hs xs none first is a =
    let P : Answered → Type 0 = λ y. AreThere w (answered_names y (operand_names e hs)) in
    let given : AreThere w (v ∷ operand_names e hs) = subst P xs a in
    let vs : List Value = e.done ++ values_coming e.todo in
    let some : AreThere w (take n e.done) = each_take w n e.done (each-left (IsThere w) e.done (values_coming e.todo) (each-left (IsThere w) vs hs given.1)) in
    let fewer : AreThere w ((take n e.done ++ []) ++ hs) = subst (λ us. AreThere w (us ++ hs)) (sym (no_more (take n e.done))) (each-append (IsThere w) (take n e.done) hs some (each-right (IsThere w) vs hs given.1)) in
    let R : Evaluation → Type 0 = λ y. AreThere w (operand_names y hs) in
    let all : e' ≡ record { done = take n e.done ++ v ∷ []; todo = [] } = is ∙ ap (λ y. record { done = y.done ++ v ∷ []; todo = [] }) first in
    subst R (sym all) (added_there w v (take n e.done) hs (given.0, fewer))
