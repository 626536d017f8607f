-- The labels around a statement, looked through from the outermost one inwards.
use Rattle.std.proofs.Common.{◌≡◌, ℕ, zero, suc, ◌<◌, ◌==◌, ◌||◌, List, [], ◌∷◌, Bool, true, false}
use Rattle.std.proofs.Common.{Option, Some, None, length, slice_get, refl, ap, sym, ◌∙◌, subst, arith}
use Rattle.std.specs.Prelude.{if◌then◌else◌, bytes_eq}
use Rattle.std.specs.Option.{option_map}
use Rattle.std.proofs.lemmas.Option.{same_Some}
use Rattle.js_tree.specs.Arena.{Arena, IsOrdered, IsWithin, node_at}
use Rattle.js_tree.specs.Names.{is_among}
use Rattle.js_tree.specs.Trees.{parts}
use Rattle.js_tree.specs.declared.node.Node.{Node}
use Rattle.js_tree.specs.declared.node.Node.TheVariants as node
use Rattle.js_tree.specs.declared.node.NodeId.{NodeId}
use Rattle.js_tree.specs.declared.script.Kept.{Kept}
use Rattle.js_term.specs.Operands.{Labels}
use Rattle.js_stmt.specs.CodeRows.{labels_up_to, with_label}

either : (p q r : Bool) → p || (q || r) ≡ (p || (q || false)) || r
either true q r = refl
either false true r = refl
either false false r = refl

module _ (a : Arena) (s : NodeId) where
  abbrev up : ℕ → NodeId → Labels → Labels
  up k n ls = labels_up_to a s k n ls

  module _ (x : List ℕ) where
    opened : (k : ℕ)
        → ((n : NodeId) (ls : Labels)
        → is_among x (up k n ls) ≡ is_among x (up k n []) || is_among x ls)
        → (b : Bool) (o : Option Node) (ls : Labels)
        → is_among x (if b then ls else with_label (up k) o ls)
        ≡ is_among x (if b then [] else with_label (up k) o []) || is_among x ls
    opened k rest true o ls = refl
    opened k rest false (Some (node.Labelled l t)) ls =
        rest t (l ∷ ls)
        ∙ either (is_among x (up k t [])) (bytes_eq x l) (is_among x ls)
        ∙ ap (λ b. b || is_among x ls) (sym (rest t (l ∷ [])))
    opened k rest false o ls = refl

    appended : (k : ℕ) (n : NodeId) (ls : Labels)
        → is_among x (up k n ls) ≡ is_among x (up k n []) || is_among x ls
    unfolding labels_up_to
    appended zero n ls = refl
    appended (suc k) n ls = opened k (appended k) (n.number == s.number) (node_at a n) ls

  module _ (is : IsOrdered a) where
    pub inner_below : (n : NodeId) (l : List ℕ) (t : NodeId) (o : Option Kept)
        → slice_get a.kept n.number ≡ o
        → option_map (λ (k : Kept). k.node) o ≡ Some (node.Labelled l t) → t.number < n.number
    inner_below n l t None g e = cc
    inner_below n l t (Some k) g e =
        let within : IsWithin n.number (length a.pending) (parts (node.Labelled l t)) =
        subst (λ m. IsWithin n.number (length a.pending) (parts m))
        (same_Some k.node (node.Labelled l t) e) (is.nodes n.number k g) in
        within.1.0

    same : (j k : ℕ) (n : NodeId)
        → ((t : NodeId) (ls : Labels) → t.number < n.number → up j t ls ≡ up k t ls)
        → (b : Bool) (o : Option Node) (ls : Labels) → node_at a n ≡ o
        → (if b then ls else with_label (up j) o ls) ≡ (if b then ls else with_label (up k) o ls)
    same j k n rest true o ls g = refl
    same j k n rest false (Some (node.Labelled l t)) ls g =
        rest t (l ∷ ls) (inner_below n l t (slice_get a.kept n.number) refl g)
    same j k n rest false o ls g = refl

    -- a part's number is levels enough
    levels : (j k : ℕ) (n : NodeId) (ls : Labels) → n.number < j → n.number < k
        → up j n ls ≡ up k n ls
    unfolding labels_up_to
    levels zero k n ls p q = absurd (omega (arith, p))
    levels (suc j) zero n ls p q = absurd (omega (arith, q))
    levels (suc j) (suc k) n ls p q =
        same j k n (λ t us below. levels j k t us (omega (arith, below, p)) (omega (arith, below, q)))
        (n.number == s.number) (node_at a n) ls refl

    module _ (x : List ℕ) where
      abbrev pub found_from : NodeId → Bool
      found_from n = is_among x (up (suc n.number) n [])

      at_statement : (n : NodeId) (b : Bool) → b ≡ true
          → is_among x (if b then [] else with_label (up n.number) (node_at a n) []) ≡ false
      at_statement n true e = refl
      at_statement n false e = cc

      -- the statement is reached
      pub reached : (n : NodeId) → n.number == s.number ≡ true → found_from n ≡ false
      unfolding labels_up_to
      reached n e = at_statement n (n.number == s.number) e

      one_level : (n : NodeId) (b : Bool) → b ≡ false
          → is_among x (if b then [] else with_label (up n.number) (node_at a n) [])
          ≡ is_among x (with_label (up n.number) (node_at a n) [])
      one_level n false e = refl
      one_level n true e = cc

      inwards : (n : NodeId) (l : List ℕ) (t : NodeId) → n.number == s.number ≡ false
          → node_at a n ≡ Some (node.Labelled l t)
          → found_from n ≡ found_from t || (bytes_eq x l || false)
      unfolding labels_up_to
      inwards n l t e g =
          let below = inner_below n l t (slice_get a.kept n.number) refl g in
          one_level n (n.number == s.number) e
          ∙ ap (λ o. is_among x (with_label (up n.number) o [])) g
          ∙ appended x n.number t (l ∷ [])
          ∙ ap (λ ls. is_among x ls || (bytes_eq x l || false))
          (levels n.number (suc t.number) t [] below (omega arith))

      or_true : (p q : Bool) → q ≡ true → p || (q || false) ≡ true
      or_true true q e = refl
      or_true false q e = ap (λ r. r || false) e

      or_false : (p q : Bool) → q ≡ false → p || (q || false) ≡ p
      or_false true q e = refl
      or_false false q e = ap (λ r. r || false) e

      -- a statement that is not labelled has no labels further inwards
      pub no_further : (n : NodeId) (m : Node) → n.number == s.number ≡ false
          → node_at a n ≡ Some m → with_label (up n.number) (Some m) [] ≡ []
          → found_from n ≡ false
      unfolding labels_up_to
      no_further n m e g h =
          one_level n (n.number == s.number) e
          ∙ ap (λ o. is_among x (with_label (up n.number) o [])) g ∙ ap (is_among x) h

      -- the label is found, or looked for further inwards
      pub found_here : (n : NodeId) (l : List ℕ) (t : NodeId) → n.number == s.number ≡ false
          → node_at a n ≡ Some (node.Labelled l t) → bytes_eq x l ≡ true → found_from n ≡ true
      found_here n l t e g h = inwards n l t e g ∙ or_true (found_from t) (bytes_eq x l) h

      pub found_inwards : (n : NodeId) (l : List ℕ) (t : NodeId) → n.number == s.number ≡ false
          → node_at a n ≡ Some (node.Labelled l t) → bytes_eq x l ≡ false
          → found_from n ≡ found_from t
      found_inwards n l t e g h = inwards n l t e g ∙ or_false (found_from t) (bytes_eq x l) h
