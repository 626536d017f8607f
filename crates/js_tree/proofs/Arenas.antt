-- Arenas that grow stay in order.
use Rattle.std.proofs.Common.{◌≡◌, ℕ, suc, zero, ◌+◌, ◌<◌, ◌≤◌, ◌⊎◌, inl, inr, List, [], ◌∷◌, ◌++◌, length, Option, Some, None, sym, ap, refl, subst, ◌∙◌, arith}
use Rattle.std.specs.List.{slice_get}
use Rattle.std.specs.Option.{option_map}
use Rattle.std.proofs.lemmas.List.{length_push}
use Rattle.std.proofs.lemmas.Option.{same_Some, none-some}
use Rattle.js_tree.specs.declared.node.NodeId.{NodeId}
use Rattle.js_tree.specs.declared.node.Node.{Node}
use Rattle.js_tree.specs.declared.script.TheConstants.{NODES_END}
use Rattle.js_tree.specs.declared.script.Kept.{Kept}
use Rattle.js_tree.specs.declared.script.Pending.{Pending}
use Rattle.js_tree.specs.declared.script.Braces.{Braces}
use Rattle.js_tree.specs.declared.script.FunctionHead.{FunctionHead}
use Rattle.js_tree.specs.declared.script.FunctionHead.TheVariants as head
use Rattle.js_tree.specs.Trees.{Part, At, Body, Word, Missing, Nil, Cons, parts, named, words}
use Rattle.js_tree.specs.Arena.{Arena, IsFunctionOf, IsWithin, IsOrdered, function_of, node_at, pending_of, with_function, with_node}

-- what is there stays there
pub within_more : (n b m c : ℕ) → n ≤ m → b ≤ c → (p : Part) → IsWithin n b p → IsWithin m c p
within_more n b m c nm bc (At i) h = omega arith
within_more n b m c nm bc (Body k) h = omega arith
within_more n b m c nm bc (Cons p q) h = (within_more n b m c nm bc p h.0, within_more n b m c nm bc q h.1)
within_more n b m c nm bc (Word t) h = tt
within_more n b m c nm bc Missing h = tt
within_more n b m c nm bc Nil h = tt

-- an item of a list with one more is one of the list, or the one
pub get_pushed : {X : Type 0} (xs : List X) (x : X) (i : ℕ) (y : X) → slice_get (xs ++ x ∷ []) i ≡ Some y → (slice_get xs i ≡ Some y) ⊎ ((i ≡ length xs) × (x ≡ y))
get_pushed [] x zero y h = inr (refl, same_Some x y h)
get_pushed [] x (suc i) y h = absurd (none-some y h)
get_pushed (z ∷ zs) x zero y h = inl h
get_pushed (z ∷ zs) x (suc i) y h = elim (get_pushed zs x i y h) [ inl e ↦ inl e | inr p ↦ inr (ap suc p.0, p.1) ]

named_within : (n b : ℕ) (name : Option (List ℕ)) → IsWithin n b (named name)
named_within n b None = tt
named_within n b (Some name) = tt

words_within : (n b : ℕ) (names : List (List ℕ)) → IsWithin n b (words names)
words_within n b [] = tt
words_within n b (name ∷ names) = (tt, words_within n b names)

function_within : (head : FunctionHead) (n b : ℕ) → IsWithin n (b + 1) (parts (function_of head (record { number = b })))
function_within (head.Expression h) n b = (named_within n (b + 1) h.value.name, (words_within n (b + 1) h.value.parameters, (omega arith, tt)))
function_within (head.Declaration h) n b = (tt, (words_within n (b + 1) h.value.parameters, (omega arith, tt)))

-- a node that is there stays the one that it is
kept_on : (xs : List Kept) (x : Kept) (i : ℕ) → i < length xs → slice_get (xs ++ x ∷ []) i ≡ slice_get xs i
kept_on [] x i l = absurd (omega arith)
kept_on (y ∷ xs) x zero l = refl
kept_on (y ∷ xs) x (suc i) l = kept_on xs x i (omega arith)

added_last : (xs : List Kept) (x : Kept) → slice_get (xs ++ x ∷ []) (length xs) ≡ Some x
added_last [] x = refl
added_last (y ∷ xs) x = added_last xs x

abbrev node_in : Option Kept → Option Node
node_in found = option_map (λ (k : Kept). k.node) found

still_named : (arena : Arena) (x : Kept) (i : ℕ) (p : Pending) → p.node.number < length arena.kept → IsFunctionOf i (node_at arena p.node)
    → IsFunctionOf i (node_in (slice_get (arena.kept ++ x ∷ []) p.node.number))
still_named arena x i p l h = (h.0, ap node_in (kept_on arena.kept x p.node.number l) ∙ h.1)

pub function_added : (arena : Arena) → IsOrdered arena → length arena.kept < NODES_END → length arena.pending < NODES_END
    → (head : FunctionHead) (from to : ℕ) (braces : Braces) → IsOrdered (with_function head from to braces arena)
function_added arena is few few_bodies head from to braces =
    let new : Kept = record { node = function_of head (record { number = length arena.pending }); from = from; to = to } in
    let pend : Pending = record { node = record { number = length arena.kept }; from = braces.from; to = braces.to; level = braces.level } in
    let nodes_len : length (arena.kept ++ new ∷ []) ≡ length arena.kept + 1 = length_push arena.kept new in
    let pending_len : length (arena.pending ++ pend ∷ []) ≡ length arena.pending + 1 = length_push arena.pending pend in
    let filled_len : length (arena.filled ++ None ∷ []) ≡ length arena.filled + 1 = length_push arena.filled None in
    let as_many : length arena.filled ≡ length arena.pending = is.as_many in
    record {
      few_nodes = omega arith;
      few_bodies = omega arith;
      as_many = omega arith;
      nodes = λ i k h. elim (get_pushed arena.kept new i k h) [
        | inl e ↦ within_more i (length arena.pending) i (length (arena.pending ++ pend ∷ [])) (omega arith) (omega arith) (parts k.node) (is.nodes i k e)
        | inr e ↦ subst (λ (k : Kept). IsWithin i (length (arena.pending ++ pend ∷ [])) (parts k.node)) e.1
            (within_more i (length arena.pending + 1) i (length (arena.pending ++ pend ∷ [])) (omega arith) (omega arith) (parts new.node) (function_within head i (length arena.pending)))
      ];
      functions = λ i p h. elim (get_pushed arena.pending pend i p h) [
        | inl e ↦ (let old : p.node.number < length arena.kept = is.functions i p e in omega arith)
        | inr e ↦ (let same : length arena.kept ≡ p.node.number = ap (λ (p : Pending). p.node.number) e.1 in omega arith)
      ];
      bodies = λ i id h. elim (get_pushed arena.filled None i (Some id) h) [
        | inl e ↦ (let old : id.number < length arena.kept = is.bodies i id e in omega arith)
        | inr e ↦ absurd (none-some id e.1)
      ];
      named = λ i p h. elim (get_pushed arena.pending pend i p h) [
        | inl e ↦ still_named arena new i p (is.functions i p e) (is.named i p e)
        | inr e ↦ subst (λ (p : Pending). IsFunctionOf i (node_in (slice_get (arena.kept ++ new ∷ []) p.node.number))) e.1
            (subst (λ n. IsFunctionOf n (node_in (slice_get (arena.kept ++ new ∷ []) (length arena.kept)))) (sym e.0) (head, ap node_in (added_last arena.kept new)))
      ];
    }

-- the same where the lists are known by equations
pub function_pushed : (arena : Arena) → IsOrdered arena → (head : FunctionHead) (from to : ℕ) (braces : Braces) (n m : ℕ)
    → n ≡ length arena.kept → m ≡ length arena.pending → n < NODES_END → m < NODES_END
    → (kept : List Kept) (pending : List Pending) (filled : List (Option NodeId))
    → kept ≡ arena.kept ++ record { node = function_of head (record { number = m }); from = from; to = to } ∷ []
    → pending ≡ arena.pending ++ pending_of n braces ∷ []
    → filled ≡ arena.filled ++ None ∷ []
    → IsOrdered (record { kept = kept; pending = pending; filled = filled })
function_pushed arena is head from to braces n m n_is m_is few few_bodies kept pending filled k p f =
    let same : ◌≡◌ {A = Arena} (record { kept = kept; pending = pending; filled = filled }) (with_function head from to braces arena) =
    λ i. record {
      kept = (k ∙ ap (λ m. arena.kept ++ record { node = function_of head (record { number = m }); from = from; to = to } ∷ []) m_is) i;
      pending = (p ∙ ap (λ n. arena.pending ++ pending_of n braces ∷ []) n_is) i;
      filled = f i;
    } in
    subst IsOrdered (sym same) (function_added arena is (omega arith) (omega arith) head from to braces)

pub node_added : (arena : Arena) → IsOrdered arena → length arena.kept < NODES_END → (k : Kept) → IsWithin (length arena.kept) (length arena.pending) (parts k.node) → IsOrdered (with_node k arena)
node_added arena is few new within =
    let nodes_len : length (arena.kept ++ new ∷ []) ≡ length arena.kept + 1 = length_push arena.kept new in
    record {
      few_nodes = omega arith;
      few_bodies = is.few_bodies;
      as_many = is.as_many;
      nodes = λ i k h. elim (get_pushed arena.kept new i k h) [
        | inl e ↦ is.nodes i k e
        | inr e ↦ subst (λ (k : Kept). IsWithin i (length arena.pending) (parts k.node)) e.1 (subst (λ n. IsWithin n (length arena.pending) (parts new.node)) (sym e.0) within)
      ];
      functions = λ i p h. (let old : p.node.number < length arena.kept = is.functions i p h in omega arith);
      bodies = λ i id h. (let old : id.number < length arena.kept = is.bodies i id h in omega arith);
      named = λ i p h. still_named arena new i p (is.functions i p h) (is.named i p h);
    }
