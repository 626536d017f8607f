-- The value of a row with one operand, and steps behind a write to a name.
use Rattle.std.proofs.Common.{◌≡◌, ℕ, ◌+◌, ◌<◌, List, [], ◌∷◌, ◌++◌, Option, Some, drop, get_or}
use Rattle.std.proofs.Common.{length, refl, ap, sym, ◌∙◌, subst}
use Rattle.std.proofs.lemmas.List.{drop_more}
use Rattle.js_value.specs.declared.value.Value.{Value}
use Rattle.js_value.specs.declared.value.Value.TheVariants as value
use Rattle.js_heap.specs.World.{World}
use Rattle.js_heap.specs.Closed.{IsThere}
use Rattle.js_heap.specs.declared.class.ScopeId.{ScopeId}
use Rattle.js_host.specs.There.{AreThere}
use Rattle.js_reference.specs.Answers.{answer}
use Rattle.js_reference.specs.Names.{write_name}
use Rattle.js_reference.specs.Own.{OwnProperties}
use Rattle.js_reference.specs.declared.answered.Answered.{Answered}
use Rattle.js_reference.specs.declared.answered.Answered.TheVariants as answered
use Rattle.js_term.specs.Operands.{Labels}
use Rattle.js_tree.specs.Arena.{Arena}
use Rattle.js_tree.specs.Trees.{Tree}
use Rattle.js_tree.specs.declared.node.Declarator.{Declarator}
use Rattle.js_stmt.specs.CodeRows.{after_answer, declarators_as, var_as}
use Rattle.js_stmt.specs.ForIn.{for_name}
use Rattle.js_stmt.specs.Made.{Progress, made}
use Rattle.js_stmt.specs.Made.Progress.{GoesOn}
use Rattle.js_stmt.specs.Make.{made_stmt}
use Rattle.js_stmt.specs.Rows.StmtRow.{ForInKeys}
use Rattle.js_stmt.specs.Steps.{goes_on, only}
use Rattle.js_stmt.specs.Variables.{first_initialised, next_declared, var_row}

-- the one operand is there, before others
pub only_there : (w : World) (vs ns : List Value) (v : Value) → Some v ≡ only vs
    → AreThere w (vs ++ ns) → AreThere w (v ∷ ns)
only_there w [] ns v e t = cc
only_there w (u ∷ []) ns v e t =
    let same : v ≡ u = cc in (subst (λ x. IsThere w x) (sym same) t.0, t.1)
only_there w (u ∷ x ∷ vs) ns v e t = cc

pub only_is_there : (w : World) (vs : List Value) (v : Value) → Some v ≡ only vs
    → AreThere w vs → IsThere w v
only_is_there w [] v e t = cc
only_is_there w (u ∷ []) v e t = let same : v ≡ u = cc in subst (λ x. IsThere w x) (sym same) t.0
only_is_there w (u ∷ x ∷ vs) v e t = cc

module _ {H : Type 0} where
  goes_on_answer : (g : Progress) (a : Answered) (w : World) (h : H)
      → made (after_answer g a) w h ≡ goes_on g (answer a w h)
  goes_on_answer g (answered.Returns v) w h = refl
  goes_on_answer g (answered.Throws v) w h = refl

  module _ (O : OwnProperties H) (s : Option ScopeId) (w : World) (h : H) (v : Value)
      (ans : Answered) (w' : World) (h' : H) where
    -- behind the write, a `var` goes on to the next initialiser
    pub var_stepped : (a : Arena) (ds : List Declarator) (i : ℕ) (d : Declarator) (vs : List Value)
        (g : Progress) → i < length ds → d ≡ get_or ds i d → Some v ≡ only vs
        → write_name O w h s d.name v ≡ answer ans w' h'
        → g ≡ after_answer (next_declared (first_initialised (declarators_as a (drop (i + 1) ds)))) ans
        → made g w' h' ≡ made_stmt O s w h (var_as a (drop i ds)) vs
    var_stepped a ds i d vs g l is one written e =
        let rest : Tree = declarators_as a (drop (i + 1) ds) in
        let next : Progress = next_declared (first_initialised rest) in
        let there : drop i ds ≡ d ∷ drop (i + 1) ds =
        drop_more ds i d l ∙ ap (λ x. x ∷ drop (i + 1) ds) (sym is) in
        ap (λ x. made x w' h') e ∙ goes_on_answer next ans w' h' ∙ ap (goes_on next) (sym written)
        ∙ ap (λ o. var_row O s w h d.name rest o) one
        ∙ ap (λ xs. made_stmt O s w h (var_as a xs) vs) (sym there)

    -- a for-in goes on to its body
    pub name_stepped : (u : Value) (x : List ℕ) (body : Tree) (labels : Labels)
        (ks : List (List ℕ)) (i : ℕ) (k : List ℕ) (g : Progress)
        → i < length ks → k ≡ get_or ks i k → v ≡ value.Text k
        → write_name O w h s x v ≡ answer ans w' h'
        → g ≡ after_answer (GoesOn (ForInKeys u (drop (i + 1) ks) x body labels) [] (body ∷ [])) ans
        → made g w' h' ≡ for_name O w h s u x body labels (drop i ks)
    name_stepped u x body labels ks i k g l is text written e =
        let next : Progress = GoesOn (ForInKeys u (drop (i + 1) ks) x body labels) [] (body ∷ []) in
        let there : drop i ks ≡ k ∷ drop (i + 1) ks =
        drop_more ks i k l ∙ ap (λ y. y ∷ drop (i + 1) ks) (sym is) in
        ap (λ y. made y w' h') e ∙ goes_on_answer next ans w' h'
        ∙ ap (goes_on next) (sym written ∙ ap (λ y. write_name O w h s x y) text)
        ∙ ap (for_name O w h s u x body labels) (sym there)
