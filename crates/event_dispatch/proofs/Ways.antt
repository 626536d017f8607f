-- The way up to the document.
use Rattle.std.proofs.Common.{◌≡◌, ℕ, zero, suc, ◌+◌, ◌-◌, ◌<◌, ◌≤◌, List, [], ◌∷◌, ◌++◌, length, map, Option, Some, None, IfSome, refl, sym, ap, ◌∙◌, arith}
use Rattle.std.proofs.lemmas.List.{append-nil, append_assoc}
use Rattle.std.specs.Prelude.{slice_get}
use Rattle.dom_tree.specs.Node.{DomNode}
use Rattle.dom_tree.specs.Nodes.{Fits, parent_in, parent_of, way_up}
use Rattle.event_dispatch.specs.declared.event_path.Target.{Target}
use Rattle.event_dispatch.specs.declared.event_path.Target.TheVariants.{Node}

-- what was put behind, with the rest of the way up

pub way_start : (f : ℕ → Option ℕ) (xs : List Target) (n : ℕ) (p q : Option ℕ) → p ≡ q → xs ++ map Node (way_up f (n - 0) p) ≡ xs ++ map Node (way_up f n q)
way_start f xs n p q e =
    let whole : n - 0 ≡ n = omega arith in
    ap (λ k. xs ++ map Node (way_up f k p)) whole ∙ ap (λ r. xs ++ map Node (way_up f n r)) e

pub way_step : (f : ℕ → Option ℕ) (xs ys : List Target) (n i p : ℕ) (q r : Option ℕ) → i < n → r ≡ Some p → q ≡ f p → xs ++ map Node (way_up f (n - i) r) ≡ ys → (xs ++ Node p ∷ []) ++ map Node (way_up f (n - (i + 1)) q) ≡ ys
way_step f xs ys n i p q r h s e g =
    let next : suc (n - (i + 1)) ≡ n - i = omega arith in
    append_assoc xs (Node p ∷ []) (map Node (way_up f (n - (i + 1)) q))
    ∙ ap (λ t. xs ++ Node p ∷ map Node (way_up f (n - (i + 1)) t)) e
    ∙ ap (λ k. xs ++ map Node (way_up f k (Some p))) next ∙ ap (λ t. xs ++ map Node (way_up f (n - i) t)) (sym s) ∙ g

way_none : (f : ℕ → Option ℕ) (k : ℕ) → way_up f k None ≡ []
way_none f zero = refl
way_none f (suc k) = refl

pub way_top : (f : ℕ → Option ℕ) (xs ys : List Target) (k : ℕ) (r : Option ℕ) → r ≡ None → xs ++ map Node (way_up f k r) ≡ ys → xs ≡ ys
way_top f xs ys k r e g = sym (append-nil xs) ∙ sym (ap (λ ws. xs ++ map Node ws) (ap (way_up f k) e ∙ way_none f k)) ∙ g

pub way_end : (f : ℕ → Option ℕ) (xs ys : List Target) (n i : ℕ) (r : Option ℕ) → n ≤ i → xs ++ map Node (way_up f (n - i) r) ≡ ys → xs ≡ ys
way_end f xs ys n i r h g =
    let none : n - i ≡ zero = omega arith in
    sym (append-nil xs) ∙ sym (ap (λ k. xs ++ map Node (way_up f k r)) none) ∙ g

-- what a node says of its parent

parent_there : (nodes : List DomNode) (x : ℕ) (o : Option ℕ) → Fits nodes → parent_of nodes x ≡ o → IfSome o (λ p. p < length nodes)
parent_there nodes x None fits e = tt
parent_there nodes x (Some p) fits e = (fits.parents x p e).0

pub parent_read : (nodes : List DomNode) (x : ℕ) (node : DomNode) → Fits nodes → slice_get nodes x ≡ Some node → (node.parent ≡ parent_of nodes x) × IfSome node.parent (λ p. p < length nodes)
parent_read nodes x node fits e =
    let same : parent_of nodes x ≡ node.parent = ap parent_in e in
    (sym same, parent_there nodes x node.parent fits same)
