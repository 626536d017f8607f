-- The term of a tree is its row over its operands' terms, and its operands are lighter than it.
use Rattle.std.specs.Prelude.{ℕ, zero, suc, ◌+◌, ◌<◌, ◌≤◌, ◌≡◌, refl, List, [], ◌∷◌, Bool, Option, Some, None}
use Rattle.std.proofs.Common.{ap, arith, sym, ◌∙◌}
use Rattle.js_value.specs.declared.value.Value.{Value}
use Rattle.js_tree.specs.declared.production.Production.{Production}
use Rattle.js_tree.specs.declared.production.Production.TheVariants as production
use Rattle.js_tree.specs.declared.production.UnaryOperator.TheVariants.{Delete, TypeOf}
use Rattle.js_tree.specs.Trees.{Tree}
use Rattle.js_tree.specs.Trees.Tree.{Made, Word, Missing}
use Rattle.js_term.specs.Place.{Place}
use Rattle.js_term.specs.Place.Place.{At}
use Rattle.js_term.specs.Term.{Term, node, terms}
use Rattle.js_term.specs.Frames.{focus_term}
use Rattle.js_term.specs.Moves.{IsSyntax, begun, begun_tree, focus_weight, tree_syntax}
use Rattle.js_tree.specs.Runs.{labels_before}
use Rattle.js_term.specs.Operands.{Labels, entry_values, first_initialiser, listed, literal, made, opened, operands, target_operands, term_of, term_to, total, weight}

listed-light : (t : Tree) → total weight (listed t) ≤ weight t
listed-light (Tree.Cons Missing ts) = omega (arith, listed-light ts)
listed-light (Tree.Cons t ts) = omega (arith, listed-light ts)
listed-light t = omega arith

entries-light : (t : Tree) → total weight (entry_values t) ≤ weight t
entries-light (Tree.Cons (Tree.Cons k (Tree.Cons e rest)) ts) = omega (arith, entries-light ts)
entries-light t = omega arith

initialiser-light : (t : Tree) → total weight (first_initialiser t) ≤ weight t
initialiser-light (Tree.Cons (Tree.Cons k (Tree.Cons Missing rest)) ts) = omega (arith, initialiser-light ts)
initialiser-light (Tree.Cons (Tree.Cons k (Tree.Cons e rest)) ts) = omega arith
initialiser-light t = omega arith

target-light : (t : Tree) → total weight (target_operands t) ≤ weight t
target-light (Made production.Member u v (Tree.Cons e ts)) = omega arith
target-light (Made production.Index u v (Tree.Cons e (Tree.Cons k ts))) = omega arith
target-light t = omega arith

-- operands are parts
pub operands-light : (p : Production) (ts : Tree) → total weight (operands p ts) ≤ weight ts
operands-light production.Array (Tree.Cons es ts) = omega (arith, listed-light es)
operands-light production.Object (Tree.Cons es ts) = omega (arith, entries-light es)
operands-light production.Member (Tree.Cons e ts) = omega arith
operands-light production.Index (Tree.Cons e (Tree.Cons k ts)) = omega arith
operands-light production.Call (Tree.Cons (Made production.Member a b (Tree.Cons e rest)) (Tree.Cons xs ts)) = omega arith
operands-light production.Call (Tree.Cons (Made production.Index a b (Tree.Cons e (Tree.Cons k rest))) (Tree.Cons xs ts)) = omega arith
operands-light production.Call (Tree.Cons f (Tree.Cons xs ts)) = omega (arith, listed-light xs)
operands-light production.New (Tree.Cons f (Tree.Cons xs ts)) = omega (arith, listed-light xs)
operands-light (production.Postfix o) (Tree.Cons e ts) = omega (arith, target-light e)
operands-light (production.Prefix o) (Tree.Cons e ts) = omega (arith, target-light e)
operands-light (production.Unary TypeOf) (Tree.Cons (Made production.Name a b rest) ts) = omega arith
operands-light (production.Unary Delete) (Tree.Cons (Made production.Member a b (Tree.Cons e rest)) ts) = omega arith
operands-light (production.Unary Delete) (Tree.Cons (Made production.Index a b (Tree.Cons e (Tree.Cons k rest))) ts) = omega arith
operands-light (production.Unary o) (Tree.Cons e ts) = omega arith
operands-light (production.Binary o) (Tree.Cons a (Tree.Cons b ts)) = omega arith
operands-light production.And (Tree.Cons a ts) = omega arith
operands-light production.Or (Tree.Cons a ts) = omega arith
operands-light production.Conditional (Tree.Cons a ts) = omega arith
operands-light (production.Assign None) (Tree.Cons (Made production.Name u v rest) (Tree.Cons e ts)) = omega arith
operands-light (production.Assign None) (Tree.Cons (Made production.Member u v (Tree.Cons b rest)) (Tree.Cons e ts)) = omega arith
operands-light (production.Assign None) (Tree.Cons (Made production.Index u v (Tree.Cons b (Tree.Cons k rest))) (Tree.Cons e ts)) = omega arith
operands-light (production.Assign o) (Tree.Cons a ts) = omega (arith, target-light a)
operands-light production.Comma (Tree.Cons a ts) = omega arith
operands-light production.Block (Tree.Cons ss ts) = omega (arith, listed-light ss)
operands-light production.Var (Tree.Cons ds ts) = omega (arith, initialiser-light ds)
operands-light production.Expression (Tree.Cons e ts) = omega arith
operands-light production.If (Tree.Cons e ts) = omega arith
operands-light production.ForIn (Tree.Cons x (Tree.Cons e ts)) = omega arith
operands-light production.Return (Tree.Cons Missing ts) = omega arith
operands-light production.Return (Tree.Cons e ts) = omega arith
operands-light production.Labelled (Tree.Cons l (Tree.Cons s ts)) = omega arith
operands-light production.Switch (Tree.Cons e ts) = omega arith
operands-light production.Throw (Tree.Cons e ts) = omega arith
operands-light production.Try (Tree.Cons ss ts) = omega (arith, listed-light ss)
operands-light production.Program (Tree.Cons ss ts) = omega (arith, listed-light ss)
operands-light production.Handler (Tree.Cons ss ts) = omega (arith, listed-light ss)
operands-light production.Body (Tree.Cons ss ts) = omega (arith, listed-light ss)
operands-light p ts = omega arith

terms-same : {R : Type 0} (f g : Tree → Term R) (n : ℕ) (ts : List Tree) → total weight ts ≤ n → ((t : Tree) → weight t ≤ n → f t ≡ g t) → terms f ts ≡ terms g ts
terms-same f g n [] l e = refl
terms-same f g n (t ∷ ts) l e =
    let a = e t (omega (arith, l)) in
    let b = terms-same f g n ts (omega (arith, l)) e in
    cc

weighty : (t : Tree) → 1 < weight t
weighty (Made p u v ts) = omega arith
weighty (Word k) = omega arith
weighty Missing = omega arith
weighty Tree.Nil = omega arith
weighty (Tree.Cons t ts) = omega (arith, weighty t, weighty ts)

module _ {R : Type 0} (no_step : R → Bool) (row : Labels → Place → Production → Tree → R) where
  abbrev to : ℕ → ℕ → Labels → Tree → Term R
  to n x ls t = term_to no_step row n x ls t

  made-same : (f g : Labels → Tree → Term R) (ls : Labels) (a : Place) (p : Production) (ts : Tree) (o : Option Value) (n : ℕ) → weight ts ≤ n
      → ((ls : Labels) (t : Tree) → weight t ≤ n → f ls t ≡ g ls t) → made no_step row f ls a p ts o ≡ made no_step row g ls a p ts o
  made-same f g ls a p ts (Some v) n l e = refl
  made-same f g ls a p ts None n l e =
      ap (node no_step (row ls a p ts)) (terms-same (f (labels_before p ts ls)) (g (labels_before p ts ls)) n (operands p ts) (omega (arith, l, operands-light p ts)) (e (labels_before p ts ls)))

  opened-same : (f g : Labels → Tree → Term R) (ls : Labels) (x : ℕ) (t : Tree) → ((ms : Labels) (u : Tree) → weight u < weight t → f ms u ≡ g ms u)
      → opened no_step row f ls x t ≡ opened no_step row g ls x t
  opened-same f g ls x (Made p u v ts) e = made-same f g ls (At x u) p ts (literal p ts) (weight ts) (omega arith) (λ ms t l. e ms t (omega (arith, l)))
  opened-same f g ls x (Word k) e = refl
  opened-same f g ls x Missing e = refl
  opened-same f g ls x Tree.Nil e = refl
  opened-same f g ls x (Tree.Cons t ts) e = refl

  -- levels enough are as good as more
  enough : (j k x : ℕ) (ls : Labels) (t : Tree) → weight t ≤ j → weight t ≤ k → to j x ls t ≡ to k x ls t
  enough zero k x ls t a b = absurd (omega (arith, a, weighty t))
  enough (suc j) zero x ls t a b = absurd (omega (arith, b, weighty t))
  enough (suc j) (suc k) x ls t a b =
      opened-same (to j x) (to k x) ls x t (λ ms u l. enough j k x ms u (omega (arith, a, l)) (omega (arith, b, l)))

  -- the term of a tree is its row over its operands' terms
  pub term-opened : (x : ℕ) (ls : Labels) (t : Tree) → term_of no_step row x ls t ≡ opened no_step row (term_of no_step row x) ls x t
  unfolding term_of
  term-opened x ls t =
      enough (weight t) (suc (weight t)) x ls t (omega arith) (omega arith)
      ∙ opened-same (to (weight t) x) (term_of no_step row x) ls x t (λ ms u l. enough (weight t) (weight u) x ms u (omega (arith, l)) (omega arith))

module _ {R : Type 0} (no_step : R → Bool) (row : Labels → Place → Production → Tree → R) (text : R → ℕ) (labels : R → Labels)
    (named : (x u : ℕ) (ls : Labels) (p : Production) (ts : Tree) → text (row ls (At x u) p ts) ≡ x)
    (around : (x u : ℕ) (ls : Labels) (p : Production) (ts : Tree) → labels (row ls (At x u) p ts) ≡ labels_before p ts ls) where
  begins-same : (x u : ℕ) (ls : Labels) (p : Production) (ts : Tree) (o : Option Value)
      → focus_term no_step (λ r t. term_of no_step row (text r) (labels r) t) (begun row x u ls p ts o) ≡ made no_step row (term_of no_step row x) ls (At x u) p ts o
  begins-same x u ls p ts (Some v) = refl
  begins-same x u ls p ts None =
      ap (λ y. node no_step (row ls (At x u) p ts) (terms (λ t. term_of no_step row y (labels (row ls (At x u) p ts)) t) (operands p ts))) (named x u ls p ts)
      ∙ ap (λ ms. node no_step (row ls (At x u) p ts) (terms (λ t. term_of no_step row x ms t) (operands p ts))) (around x u ls p ts)

  begun-same : (x : ℕ) (ls : Labels) (t : Tree)
      → focus_term no_step (λ r t. term_of no_step row (text r) (labels r) t) (begun_tree row x ls t) ≡ opened no_step row (term_of no_step row x) ls x t
  begun-same x ls (Made p u v ts) = begins-same x u ls p ts (literal p ts)
  begun-same x ls (Word k) = refl
  begun-same x ls Missing = refl
  begun-same x ls Tree.Nil = refl
  begun-same x ls (Tree.Cons t ts) = refl

  begins-lighter : (x u : ℕ) (ls : Labels) (p : Production) (ts : Tree) (o : Option Value)
      → focus_weight (tree_syntax no_step row text labels) (begun row x u ls p ts o) < 6 + weight ts
  begins-lighter x u ls p ts (Some v) = omega arith
  begins-lighter x u ls p ts None = omega (arith, operands-light p ts)

  begun-lighter : (x : ℕ) (ls : Labels) (t : Tree) → focus_weight (tree_syntax no_step row text labels) (begun_tree row x ls t) < 1 + weight t
  begun-lighter x ls (Made p u v ts) = omega (arith, begins-lighter x u ls p ts (literal p ts))
  begun-lighter x ls (Word k) = omega arith
  begun-lighter x ls Missing = omega arith
  begun-lighter x ls Tree.Nil = omega arith
  begun-lighter x ls (Tree.Cons t ts) = omega (arith, weighty t, weighty ts)

  -- trees are syntax
  pub trees-are-syntax : IsSyntax (tree_syntax no_step row text labels) no_step
  trees-are-syntax = record {
    same = λ r t. begun-same (text r) (labels r) t ∙ sym (term-opened no_step row (text r) (labels r) t);
    lighter = λ r t. begun-lighter (text r) (labels r) t;
  }
