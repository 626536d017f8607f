-- The term of a tree is its own image.
use Rattle.std.specs.Prelude.{ℕ, zero, suc, List, [], ◌∷◌, Bool, Option, Some, None, ◌≡◌, refl}
use Rattle.std.proofs.Common.{ap, sym, ◌∙◌, subst}
use Rattle.std.proofs.lemmas.Option.{same_Some}
use Rattle.js_value.specs.Image.{image}
use Rattle.js_value.specs.declared.value.Value.{Value}
use Rattle.js_value.specs.declared.value.Value.TheVariants as value
use Rattle.js_tree.specs.declared.production.Production.{Production}
use Rattle.js_tree.specs.declared.production.Production.TheVariants as production
use Rattle.js_tree.specs.Runs.{labels_before}
use Rattle.js_tree.specs.Trees.{Tree}
use Rattle.js_tree.specs.Trees.Tree.{Made, Word, Missing}
use Rattle.js_term.specs.Images.{Images, TablesCommute, plain, plains}
use Rattle.js_term.specs.Operands.{Labels, literal, made, opened, operands, term_of, term_to, weight}
use Rattle.js_term.specs.Place.{Place}
use Rattle.js_term.specs.Place.Place.{At}
use Rattle.js_term.specs.Table.{Table}
use Rattle.js_term.specs.Term.{Term, Terms, node, terms}
use Rattle.js_term.specs.Term.Term.{Val}
use Rattle.js_term.specs.Term.Terms.{Nil, Cons}
use Rattle.js_term.proofs.Simulation.{plain-node}

own : (u v : Value) → image u ≡ u → Some u ≡ Some v → image v ≡ v
own u v e g = subst (λ w. image w ≡ w) (same_Some u v g) e

-- a literal's value is no wrap
literal-plain : (p : Production) (ts : Tree) (v : Value) → literal p ts ≡ Some v → image v ≡ v
literal-plain production.Null ts v e = own value.Null v refl e
literal-plain (production.Bool b) ts v e = own (value.Bool b) v refl e
literal-plain (production.Number z) ts v e = own _ v refl e
literal-plain production.Text (Tree.Cons (Word k) ts) v e = own (value.Text k) v refl e
literal-plain p ts v e = cc

module _ {R H : Type 0} (T P : Table R H) (I : Images R H) (L : TablesCommute T P I)
    (row : Labels → Place → Production → Tree → R)
    (same : (ls : Labels) (a : Place) (p : Production) (ts : Tree) → I.row (row ls a p ts) ≡ row ls a p ts) where
  plains-terms : (f g : Tree → Term R) (ts : List Tree) → ((t : Tree) → plain T P I (f t) ≡ g t)
      → plains T P I (terms f ts) ≡ terms g ts
  plains-terms f g [] e = refl
  plains-terms f g (t ∷ ts) e =
      let a = e t in
      let b = plains-terms f g ts e in
      cc

  made-plain : (f g : Labels → Tree → Term R) (ls : Labels) (a : Place) (p : Production) (ts : Tree) (o : Option Value) → literal p ts ≡ o
      → ((ls : Labels) (t : Tree) → plain T P I (f ls t) ≡ g ls t)
      → plain T P I (made T.no_step row f ls a p ts o) ≡ made P.no_step row g ls a p ts o
  made-plain f g ls a p ts (Some v) l e = ap Val (literal-plain p ts v l)
  made-plain f g ls a p ts None l e =
      plain-node T P I L (row ls a p ts) (terms (f (labels_before p ts ls)) (operands p ts))
      ∙ (ap (λ r. node P.no_step r (plains T P I (terms (f (labels_before p ts ls)) (operands p ts)))) (same ls a p ts)
      ∙ ap (node P.no_step (row ls a p ts)) (plains-terms (f (labels_before p ts ls)) (g (labels_before p ts ls)) (operands p ts) (e (labels_before p ts ls))))

  opened-plain : (f g : Labels → Tree → Term R) (ls : Labels) (x : ℕ) (t : Tree) → ((ms : Labels) (u : Tree) → plain T P I (f ms u) ≡ g ms u)
      → plain T P I (opened T.no_step row f ls x t) ≡ opened P.no_step row g ls x t
  opened-plain f g ls x (Made p u v ts) e = made-plain f g ls (At x u) p ts (literal p ts) refl e
  opened-plain f g ls x (Word k) e = refl
  opened-plain f g ls x Missing e = refl
  opened-plain f g ls x Tree.Nil e = refl
  opened-plain f g ls x (Tree.Cons t ts) e = refl

  to-plain : (n x : ℕ) (ls : Labels) (t : Tree) → plain T P I (term_to T.no_step row n x ls t) ≡ term_to P.no_step row n x ls t
  to-plain zero x ls t = refl
  to-plain (suc n) x ls t = opened-plain (term_to T.no_step row n x) (term_to P.no_step row n x) ls x t (to-plain n x)

  pub term-plain : (x : ℕ) (ls : Labels) (t : Tree) → plain T P I (term_of T.no_step row x ls t) ≡ term_of P.no_step row x ls t
  unfolding term_of
  term-plain x ls t = to-plain (weight t) x ls t
