-- An index of functions goes on where nodes and functions are added.
use Rattle.std.proofs.Common.{◌≡◌, ℕ, zero, suc, ◌<◌, ◌==◌, Bool, true, false, cond, if◌then◌else◌, List, [], ◌∷◌, ◌++◌, length, Option, Some, None, refl, sym, ap, subst, ◌∙◌, arith}
use Rattle.std.specs.List.{slice_get}
use Rattle.std.specs.Ordering.{is_eq, nat_cmp}
use Rattle.std.specs.BTreeMap.{BTreeMap, get}
use Rattle.std.specs.Prelude.{IfSome}
use Rattle.std.proofs.lemmas.Bool.Decides.{nat_tests}
use Rattle.std.proofs.lemmas.Option.{same_Some, none-some}
use Rattle.js_tree.specs.declared.node.NodeId.{NodeId}
use Rattle.js_tree.specs.declared.script.TheConstants.{NODES_END}
use Rattle.js_tree.specs.declared.script.Kept.{Kept}
use Rattle.js_tree.specs.declared.script.Pending.{Pending}
use Rattle.js_tree.specs.declared.script.Braces.{Braces}
use Rattle.js_tree.specs.declared.script.FunctionHead.{FunctionHead}
use Rattle.js_tree.specs.Trees.{parts}
use Rattle.js_tree.proofs.Arenas.{function_pushed, node_added}
use Rattle.js_tree.specs.Arena.{Arena, IsOrdered, IsWithin, function_of, pending_of, begins_at, first_of, function_among}
use Rattle.js_tree.specs.Indexed.{IsIndexed, KeepsFunctions, PutsFunction}

-- functions that are there
abbrev AreThere : ℕ → List Pending → Type 0
AreThere count pending = (i : ℕ) (p : Pending) → slice_get pending i ≡ Some p → p.node.number < count

get_front : (kept more : List Kept) (i : ℕ) → i < length kept → slice_get (kept ++ more) i ≡ slice_get kept i
get_front [] more i l = absurd (omega arith)
get_front (k ∷ kept) more zero l = refl
get_front (k ∷ kept) more (suc i) l = get_front kept more i (omega arith)

get_last : (kept : List Kept) (k : Kept) → slice_get (kept ++ k ∷ []) (length kept) ≡ Some k
get_last [] k = refl
get_last (x ∷ kept) k = get_last kept k

-- functions are found as before where nodes are added
kept_among : (kept more : List Kept) (pending : List Pending) (unit : ℕ) → AreThere (length kept) pending → function_among (kept ++ more) pending unit ≡ function_among kept pending unit
kept_among kept more [] unit there = refl
kept_among kept more (p ∷ ps) unit there =
    λ i. first_of (kept_among kept more ps unit (λ i. there (suc i)) i) (if begins_at unit (get_front kept more p.node.number (there 0 p refl) i) then Some p.node else None)

first_of_three : (a b c : Option NodeId) → first_of (first_of a b) c ≡ first_of a (first_of b c)
first_of_three None b c = refl
first_of_three (Some id) b c = refl

-- a function that is added last is found before the others
last_among : (kept : List Kept) (pending : List Pending) (p : Pending) (unit : ℕ)
    → function_among kept (pending ++ p ∷ []) unit ≡ first_of (if begins_at unit (slice_get kept p.node.number) then Some p.node else None) (function_among kept pending unit)
last_among kept [] p unit = first_of_none (if begins_at unit (slice_get kept p.node.number) then Some p.node else None)
  where
    first_of_none : (a : Option NodeId) → a ≡ first_of a None
    first_of_none None = refl
    first_of_none (Some id) = refl
last_among kept (q ∷ pending) p unit =
    ap (λ o. first_of o (if begins_at unit (slice_get kept q.node.number) then Some q.node else None)) (last_among kept pending p unit)
    ∙ first_of_three (if begins_at unit (slice_get kept p.node.number) then Some p.node else None) (function_among kept pending unit) (if begins_at unit (slice_get kept q.node.number) then Some q.node else None)

pub node_indexed : (arena : Arena) → IsOrdered arena → (index : BTreeMap ℕ NodeId) → IsIndexed arena.kept arena.pending index → (more : List Kept) → IsIndexed (arena.kept ++ more) arena.pending index
node_indexed arena is index has more unit = has unit ∙ sym (kept_among arena.kept more arena.pending unit is.functions)

same_unit : (a b : ℕ) → is_eq (nat_cmp a b) ≡ (a == b)
same_unit a b = grind (arith, nat_tests)

put_chosen : (a b : ℕ) (id : NodeId) (o : Option NodeId) → cond (is_eq (nat_cmp a b)) (Some id) o ≡ (if a == b then Some id else o)
put_chosen a b id o = ap (λ c. cond c (Some id) o) (same_unit a b)

pub function_put : (at : ℕ) (id : NodeId) (old new : BTreeMap ℕ NodeId) → ((q : ℕ) → get nat_cmp new q ≡ cond (is_eq (nat_cmp at q)) (Some id) (get nat_cmp old q)) → PutsFunction at id old new
function_put at id old new h unit = h unit ∙ put_chosen at unit id (get nat_cmp old unit)

if_first : (b : Bool) (id : NodeId) (o : Option NodeId) → (if b then Some id else o) ≡ first_of (if b then Some id else None) o
if_first true id o = refl
if_first false id o = refl

-- a function that is added with its node
pub function_indexed : (arena : Arena) → IsOrdered arena → (old new : BTreeMap ℕ NodeId) → IsIndexed arena.kept arena.pending old
    → (k : Kept) (p : Pending) → p.node.number ≡ length arena.kept → PutsFunction k.from p.node old new
    → IsIndexed (arena.kept ++ k ∷ []) (arena.pending ++ p ∷ []) new
function_indexed arena is old new has k p at puts unit =
    puts unit
    ∙ ap (λ o. if k.from == unit then Some p.node else o) (node_indexed arena is old has (k ∷ []) unit)
    ∙ if_first (k.from == unit) p.node (function_among (arena.kept ++ k ∷ []) arena.pending unit)
    ∙ ap (λ o. first_of (if begins_at unit o then Some p.node else None) (function_among (arena.kept ++ k ∷ []) arena.pending unit)) (sym (ap (λ n. slice_get (arena.kept ++ k ∷ []) n) at ∙ get_last arena.kept k))
    ∙ sym (last_among (arena.kept ++ k ∷ []) arena.pending p unit)

-- what the index finds is there
among_there : (count : ℕ) (kept : List Kept) (pending : List Pending) → AreThere count pending → (unit : ℕ) (id : NodeId) → function_among kept pending unit ≡ Some id → id.number < count
among_there count kept [] there unit id e = absurd (none-some id e)
among_there count kept (p ∷ ps) there unit id e =
    first_there count (function_among kept ps unit) (begins_at unit (slice_get kept p.node.number)) p.node id (among_there count kept ps (λ i. there (suc i)) unit id) (there 0 p refl) e
  where
    first_there : (count : ℕ) (o : Option NodeId) (b : Bool) (q id : NodeId) → (o ≡ Some id → id.number < count) → q.number < count → first_of o (if b then Some q else None) ≡ Some id → id.number < count
    first_there count (Some o) b q id old new e = old e
    first_there count None true q id old new e = subst (λ (q : NodeId). q.number < count) (same_Some q id e) new
    first_there count None false q id old new e = absurd (none-some id e)

pub function_within : (arena : Arena) → IsOrdered arena → (index : BTreeMap ℕ NodeId) → IsIndexed arena.kept arena.pending index → (unit : ℕ) (o : Option NodeId) → o ≡ get nat_cmp index unit → IfSome o (λ id. id.number < length arena.kept)
function_within arena is index has unit None e = tt
function_within arena is index has unit (Some id) e = among_there (length arena.kept) arena.kept arena.pending is.functions unit id (sym (has unit) ∙ sym e)

-- what a script keeps of its fields
abbrev pub IsKept : Arena → BTreeMap ℕ NodeId → Type 0
IsKept arena index = IsOrdered arena × IsIndexed arena.kept arena.pending index

-- where nothing changes
pub all_still : (a : Arena) (old : BTreeMap ℕ NodeId) → IsKept a old → (kept : List Kept) (pending : List Pending) (filled : List (Option NodeId)) (new : BTreeMap ℕ NodeId)
    → kept ≡ a.kept → pending ≡ a.pending → filled ≡ a.filled → KeepsFunctions old new → IsKept (record { kept = kept; pending = pending; filled = filled }) new
all_still a old is kept pending filled new k p f same =
    let all : ◌≡◌ {A = Arena} a (record { kept = kept; pending = pending; filled = filled }) = λ i. record { kept = sym k i; pending = sym p i; filled = sym f i } in
    subst (λ b. IsKept b new) all (is.0, λ unit. same unit ∙ is.1 unit)

pub node_kept : (a : Arena) (index : BTreeMap ℕ NodeId) → IsKept a index → length a.kept < NODES_END → (k : Kept) → IsWithin (length a.kept) (length a.pending) (parts k.node)
    → (kept : List Kept) → kept ≡ a.kept ++ k ∷ [] → IsKept (record { kept = kept; pending = a.pending; filled = a.filled }) index
node_kept a index is few k within kept e =
    subst (λ kept. IsKept (record { kept = kept; pending = a.pending; filled = a.filled }) index) (sym e) (node_added a is.0 few k within, node_indexed a is.0 index is.1 (k ∷ []))

pub function_kept : (a : Arena) (old new : BTreeMap ℕ NodeId) → IsKept a old → (head : FunctionHead) (from to : ℕ) (braces : Braces) (n m : ℕ)
    → n ≡ length a.kept → m ≡ length a.pending → n < NODES_END → m < NODES_END → PutsFunction from (record { number = n }) old new
    → (kept : List Kept) (pending : List Pending) (filled : List (Option NodeId))
    → kept ≡ a.kept ++ record { node = function_of head (record { number = m }); from = from; to = to } ∷ []
    → pending ≡ a.pending ++ pending_of n braces ∷ []
    → filled ≡ a.filled ++ None ∷ []
    → IsKept (record { kept = kept; pending = pending; filled = filled }) new
function_kept a old new is head from to braces n m n_is m_is few few_bodies puts kept pending filled k p f = (
  function_pushed a is.0 head from to braces n m n_is m_is few few_bodies kept pending filled k p f,
  λ unit. function_indexed a is.0 old new is.1 (record { node = function_of head (record { number = m }); from = from; to = to }) (pending_of n braces) n_is puts unit
      ∙ (λ i. function_among (sym k i) (sym p i) unit),
)
