-- What the parts of a call come to together.
use Rattle.std.proofs.Common.{◌≡◌, ℕ, List, [], ◌∷◌, ◌++◌, Bool, true, false, Option, Some}
use Rattle.std.proofs.Common.{None, IfOk, OnOk, refl, ap, sym, ◌∙◌, subst}
use Rattle.std.specs.Prelude.{Result, Ok, Err, IfSome, codes, pos}
use Rattle.js_value.specs.declared.number.Num.TheVariants.{Whole}
use Rattle.js_value.specs.declared.value.NativeId.{NativeId}
use Rattle.js_value.specs.declared.value.ObjId.{ObjId}
use Rattle.js_value.specs.declared.value.Value.{Value}
use Rattle.js_value.specs.declared.value.Value.TheVariants as value
use Rattle.js_heap.specs.Objects.{with_object}
use Rattle.js_heap.specs.Puts.{put}
use Rattle.js_heap.specs.World.{World}
use Rattle.js_heap.specs.declared.class.Class.TheVariants as class
use Rattle.js_heap.specs.declared.class.Code.{Code}
use Rattle.js_heap.specs.declared.class.ScopeId.{ScopeId}
use Rattle.js_heap.specs.declared.root.Root.TheVariants as root
use Rattle.js_host.specs.Names.{option_names}
use Rattle.js_host.specs.There.{AreThere}
use Rattle.js_reference.specs.Errors.{next_object, root_object}
use Rattle.js_reference.specs.Own.{OwnProperties}
use Rattle.js_term.specs.Evaluation.{Evaluation}
use Rattle.js_term.specs.Operands.{listed}
use Rattle.js_term.specs.declared.context.Context.{Context}
use Rattle.js_tree.specs.Arena.{Arena}
use Rattle.js_tree.specs.TreeAt.{tree_of}
use Rattle.js_tree.specs.Trees.{nodes}
use Rattle.js_tree.specs.declared.node.NodeId.{NodeId}
use Rattle.js_tree.specs.declared.node.Scope.{Scope}
use Rattle.js_stmt.proofs.Lists.{statements_held}
use Rattle.js_stmt.specs.CodeRows.{fresh, operand_trees}
use Rattle.js_stmt.specs.Made.{Progress, made}
use Rattle.js_stmt.specs.Made.Progress.{GoesOn}
use Rattle.js_stmt.specs.Parts.{IsHeld}
use Rattle.js_stmt.specs.Rows.StmtRow.{Body}
use Rattle.js_stmt.specs.Tries.{next_scope}
use Rattle.js_calls.specs.Calls as calls
use Rattle.js_calls.specs.Calls.{Function, scope_of, with_arguments, with_declared, with_own_name}

-- what both facts of an answer give
pub ok_both : {X E : Type 0} (r : Result X E) (P : X → Type 0) (Q : Type 0) (R : X → Type 0)
    → ((x : X) → P x → Q → R x) → IfOk r P → OnOk r Q → IfOk r R
ok_both (Ok x) P Q R f p q = f x p q
ok_both (Err e) P Q R f p q = tt

pub no_arguments : (b : Bool) (s : ScopeId) (vs : List Value) (w : World) → b ≡ false
    → w ≡ with_arguments b s vs w
no_arguments true s vs w e = absurd cc
no_arguments false s vs w e = refl

pub no_own_name : (b : Bool) (s : ScopeId) (o : Option (List ℕ)) (v : Value) (w : World)
    → b ≡ false → w ≡ with_own_name b s o v w
no_own_name true s o v w e = absurd cc
no_own_name false s o v w e = refl

pub unnamed : (b : Bool) (s : ScopeId) (o : Option (List ℕ)) (v : Value) (w : World)
    → o ≡ None → w ≡ with_own_name b s o v w
unnamed true s None v w e = refl
unnamed true s (Some x) v w e = absurd cc
unnamed false s o v w e = refl

-- the object of the arguments, by its steps
pub arguments_made : (w h1 h2 h3 : World) (o p : ObjId) (n : ℕ) (vs : List Value) (x : List ℕ)
    (v : Value) → h1 ≡ with_object w class.Arguments (Some p)
    → p ≡ root_object root.ObjectPrototype → o ≡ next_object w
    → calls.with_indices o 0 vs h1 ≡ calls.with_indices o n [] h2
    → x ≡ codes "length" → v ≡ value.Num (Whole (pos n)) → h3 ≡ put h2 o x v false
    → h3 ≡ calls.with_arguments_object vs w
arguments_made w h1 h2 h3 o p n vs x v made proto number is name count after =
    after ∙ ap (λ y. put h2 o y v false) name ∙ ap (λ u. put h2 o (codes "length") u false) count
    ∙ sym is
    ∙ ap (λ y. calls.with_indices o 0 vs y)
    (made ∙ ap (λ q. with_object w class.Arguments (Some q)) proto)
    ∙ ap (λ q. calls.with_indices q 0 vs
    (with_object w class.Arguments (Some (root_object root.ObjectPrototype)))) number

-- a body that is entered
module _ (text : ℕ) (this : Value) (m : Option Value) where
  abbrev pub context_in : ScopeId → Context
  context_in s = record { text = text; scope = Some s; this = this }

  pub entered_body : (a : Arena) (s n : ScopeId) (e : Evaluation) (ids : List NodeId) → s ≡ n
      → e ≡ fresh ids → IsHeld a (nodes ids)
      → GoesOn (Body (context_in s) m) e.done (operand_trees a (context_in s) e.todo)
      ≡ GoesOn (Body (context_in n) m) [] (listed (tree_of a (nodes ids)))
  entered_body a s n e ids number begun held =
      ap (λ (e : Evaluation).
      GoesOn (Body (context_in s) m) e.done (operand_trees a (context_in s) e.todo)) begun
      ∙ ap (λ ts. GoesOn (Body (context_in s) m) [] ts)
      (statements_held a (context_in s) ids held)
      ∙ ap (λ k. GoesOn (Body (context_in k) m) [] (listed (tree_of a (nodes ids)))) number

pub begun_there : (w : World) (vs : List Value) (u : Value) (m : Option Value) (e : Evaluation)
    (ids : List NodeId) → e ≡ fresh ids → AreThere w (u ∷ option_names m vs)
    → AreThere w (u ∷ option_names m (e.done ++ vs))
begun_there w vs u m e ids begun t =
    subst (λ (x : Evaluation). AreThere w (u ∷ option_names m (x.done ++ vs))) (sym begun) t

module _ {H : Type 0} (O : OwnProperties H) (asks : NativeId → Bool) (w : World) (h : H) where
  -- a body that is entered in a world with the same scopes
  pub body_entered : (code : Code) (f : Function) (sc : Scope) (callee this : Value)
      (m : Option Value) (vs : List Value) (g : Progress) (w1 w2 v : World) → w1 ≡ v
      → next_scope v ≡ next_scope w → sc ≡ scope_of f
      → g ≡ GoesOn (Body (context_in code.text this m (next_scope w1)) m) [] (listed f.statements)
      → w2 ≡ with_declared sc code f.own f.parameters callee vs (next_scope w1) w1
      → made g w2 h ≡ calls.into_body O asks w h code f callee this m vs v
  body_entered code f sc callee this m vs g w1 w2 v same scopes names is world =
      let number : next_scope w1 ≡ next_scope w = ap next_scope same ∙ scopes in
      ap (λ x. made x w2 h) is
      ∙ ap (λ y. made
      (GoesOn (Body (context_in code.text this m (next_scope w1)) m) [] (listed f.statements)) y h)
      (world ∙ ap (λ n. with_declared n code f.own f.parameters callee vs (next_scope w1) w1) names)
      ∙ ap (λ s. made (GoesOn (Body (context_in code.text this m s) m) [] (listed f.statements))
      (with_declared (scope_of f) code f.own f.parameters callee vs s w1) h) number
      ∙ ap (λ y. made
      (GoesOn (Body (context_in code.text this m (next_scope w)) m) [] (listed f.statements))
      (with_declared (scope_of f) code f.own f.parameters callee vs (next_scope w) y) h) same

-- what a fact of an answer gives
pub ok_from : {X E : Type 0} (r : Result X E) (Q : Type 0) (R : X → Type 0) → OnOk r Q
    → (Q → IfOk r R) → IfOk r R
ok_from (Ok x) Q R q f = f q
ok_from (Err e) Q R q f = tt

pub some_of_three : {X : Type 0} (r : Option X) (P Q R S : X → Type 0)
    → ((x : X) → P x → Q x → R x → S x) → IfSome r P → IfSome r Q → IfSome r R → IfSome r S
some_of_three (Some x) P Q R S f p q t = f x p q t
some_of_three None P Q R S f p q t = tt
