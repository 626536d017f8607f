-- A function more, behind the node of its body.
use Rattle.std.proofs.Common.{◌≡◌, ◌≢◌, inl, inr, ℕ, ◌+◌, ◌<◌, false, cond, List, [], ◌∷◌, ◌++◌, length, Option, Some, None, refl, sym, ◌∙◌, ap, subst, arith, eq-eqb}
use Rattle.std.specs.List.{slice_get}
use Rattle.std.specs.Prelude.{nat_eq, slice_set}
use Rattle.std.specs.Option.{option_map}
use Rattle.std.specs.Global.{Box}
use Rattle.std.proofs.lemmas.Bool.Decides.{nat_tests}
use Rattle.std.proofs.lemmas.Option.{same_Some, none-some, slice_get_within, slice_get_past, slice_get-get_or}
use Rattle.std.proofs.lemmas.List.{length_push, length-set, get_or-set_same, get_or-set_other}
use Rattle.js_tree.specs.declared.node.NodeId.{NodeId}
use Rattle.js_tree.specs.declared.node.Scope.{Scope}
use Rattle.js_tree.specs.declared.production.Production.TheVariants as production
use Rattle.js_tree.specs.declared.script.Kept.{Kept}
use Rattle.js_tree.specs.declared.script.Pending.{Pending}
use Rattle.js_tree.specs.declared.script.FunctionHead.{FunctionHead}
use Rattle.js_tree.specs.declared.script.FunctionHead.TheVariants as head
use Rattle.js_tree.specs.Trees.{Tree, Made, Nil, Cons, Part, Holds, parts, at, named, nodes, words}
use Rattle.js_tree.specs.Names.{call_scope}
use Rattle.js_tree.specs.Arena.{Arena, IsWithin, function_of, pending_of}
use Rattle.js_tree.proofs.Arenas.{get_pushed, within_more}
use Rattle.js_grammar.proofs.Total.{le_or_lt}
use Rattle.js_pieces.specs.declared.pieces.ReadBody.{ReadBody}
use Rattle.js_pieces.specs.Functions.{HasNodes, body_node, declaring, parameters_of, own_name_of}
use Rattle.js_expr.specs.Trees.{CarriesScope, IsFunction, IsRead}
use Rattle.js_expr.proofs.Growing.{Grows, get_front, get_last, no_body_nodes, part_still, function_still}

-- the bodies with one more
abbrev pub bodies_with : ℕ → Tree → (ℕ → Tree) → ℕ → Tree
bodies_with n t bodies k = cond (nat_eq k n) t (bodies k)

not_yet : (k n : ℕ) → k < n → nat_eq k n ≡ false
not_yet k n l = grind (arith, nat_tests)

pub same_below : (n : ℕ) (t : Tree) (bodies : ℕ → Tree) (k : ℕ) → k < n → bodies k ≡ bodies_with n t bodies k
same_below n t bodies k l = sym (ap (λ z. cond z t (bodies k)) (not_yet k n l))

pub same_there : (n : ℕ) (t : Tree) (bodies : ℕ → Tree) → bodies_with n t bodies n ≡ t
same_there n t bodies = ap (λ z. cond z t (bodies n)) (eq-eqb n n refl)

set_same : {X : Type 0} (xs : List X) (i : ℕ) (v : X) → i < length xs → slice_get (slice_set xs i v) i ≡ Some v
set_same xs i v l =
    let long : length (slice_set xs i v) ≡ length xs = length-set xs i v in
    slice_get-get_or (slice_set xs i v) i v (omega arith) ∙ ap Some (get_or-set_same xs i v v l)

set_other : {X : Type 0} (xs : List X) (i j : ℕ) (v : X) → j ≢ i → slice_get (slice_set xs i v) j ≡ slice_get xs j
set_other xs i j v n =
    let long : length (slice_set xs i v) ≡ length xs = length-set xs i v in
    elim (le_or_lt (length xs) j) [
      | inl l ↦ slice_get_past (slice_set xs i v) j (omega arith) ∙ sym (slice_get_past xs j l)
      | inr l ↦ slice_get-get_or (slice_set xs i v) j v (omega arith) ∙ ap Some (get_or-set_other xs i j v v n) ∙ sym (slice_get-get_or xs j v l)
    ]

named_within : (n b : ℕ) (name : Option (List ℕ)) → IsWithin n b (named name)
named_within n b None = tt
named_within n b (Some name) = tt

words_within : (n b : ℕ) (names : List (List ℕ)) → IsWithin n b (words names)
words_within n b [] = tt
words_within n b (name ∷ names) = (tt, words_within n b names)

function_within : (h : FunctionHead) (n b m : ℕ) → b < m → IsWithin n m (parts (function_of h (record { number = b })))
function_within (head.Expression h) n b m l = (named_within n m h.value.name, (words_within n m h.value.parameters, (l, tt)))
function_within (head.Declaration h) n b m l = (tt, (words_within n m h.value.parameters, (l, tt)))

module _ (arena : Arena) (bodies : ℕ → Tree) (h : FunctionHead) (scope : Box Scope) (b : ReadBody) (from to : ℕ) (ts : Tree)
    (is : IsRead arena bodies) (there : HasNodes arena b.statements) (held : Holds bodies arena.kept (nodes b.statements) ts)
    (scoped : scope.value ≡ call_scope (parameters_of h) (own_name_of h) ts) where
  abbrev before : List Kept
  before = arena.kept ++ body_node b scope ∷ []

  abbrev function : Kept
  function = record { node = function_of h (record { number = length arena.pending }); from = from; to = to }

  abbrev kept : List Kept
  kept = before ++ function ∷ []

  abbrev pend : Pending
  pend = pending_of (length before) b.braces

  abbrev body : Tree
  body = Made production.Body b.from b.to (Cons ts Nil)

  abbrev more : ℕ → Tree
  more = bodies_with (length arena.pending) body bodies

  abbrev id : NodeId
  id = record { number = length arena.kept }

  abbrev whole : Arena
  whole = declaring h scope b from to arena

  still : (i : ℕ) (k : Kept) → slice_get arena.kept i ≡ Some k → slice_get kept i ≡ Some k
  still i k e = get_front before function i k (get_front arena.kept (body_node b scope) i k e)

  grows : Grows arena bodies kept more
  grows = record { names = is.names; still = still; same = λ k l. same_below (length arena.pending) body bodies k l }

  on : (p : Part) (t : Tree) → Holds bodies arena.kept (nodes b.statements) t → Holds more kept (nodes b.statements) t
  on p t g = part_still arena bodies kept more grows (nodes b.statements) t (no_body_nodes b.statements) g

  body_at : slice_get kept (length arena.kept) ≡ Some (body_node b scope)
  body_at = get_front before function (length arena.kept) (body_node b scope) (get_last arena.kept (body_node b scope))

  body_held : Holds more kept (at id) (more (length arena.pending))
  body_held =
      subst (λ z. Holds more kept (at id) z) (sym (same_there (length arena.pending) body bodies))
      (body_node b scope, body_at, refl, refl, refl, (on Part.Nil ts held, tt))

  filled_here : slice_get whole.filled (length arena.pending) ≡ Some (Some id)
  filled_here =
      let long : length (arena.filled ++ None ∷ []) ≡ length arena.filled + 1 = length_push arena.filled None in
      let same : length arena.filled ≡ length arena.pending = is.as_many in
      set_same (arena.filled ++ None ∷ []) (length arena.pending) (Some id) (omega arith)

  filled_before : (k : ℕ) → k < length arena.pending → slice_get whole.filled k ≡ slice_get (arena.filled ++ None ∷ []) k
  filled_before k l = set_other (arena.filled ++ None ∷ []) (length arena.pending) k (Some id) (omega arith)

  carries : (f : FunctionHead) (n : ℕ) → scope.value ≡ call_scope (parameters_of f) (own_name_of f) ts → CarriesScope more kept (function_of f (record { number = n })) (body_node b scope).node
  carries (head.Expression f) n e = (ts, on Part.Nil ts held, e)
  carries (head.Declaration f) n e = (ts, on Part.Nil ts held, e)

  is_function : IsFunction whole more pend id
  is_function = record {
    function = function.node;
    body = (body_node b scope).node;
    function_there = ap (option_map (λ (k : Kept). k.node)) (get_last before function);
    body_there = ap (option_map (λ (k : Kept). k.node)) body_at;
    scope = carries h (length arena.pending) scoped;
  }

  one_more : length whole.pending ≡ length arena.pending + 1
  one_more = length_push arena.pending pend

  names : (i : ℕ) (k : Kept) → slice_get kept i ≡ Some k → IsWithin i (length whole.pending) (parts k.node)
  names i k e =
      let m : length whole.pending ≡ length arena.pending + 1 = one_more in
      elim (get_pushed before function i k e) [
        | inl f ↦ elim (get_pushed arena.kept (body_node b scope) i k f) [
          | inl g ↦ within_more i (length arena.pending) i (length whole.pending) (omega arith) (omega arith) (parts k.node) (is.names i k g)
          | inr g ↦ subst (λ (z : Kept). IsWithin i (length whole.pending) (parts z.node)) g.1
              (within_more (length arena.kept) (length arena.pending) i (length whole.pending) (let s : i ≡ length arena.kept = g.0 in omega arith) (omega arith) (nodes b.statements) there, tt)
        ]
        | inr f ↦ subst (λ (z : Kept). IsWithin i (length whole.pending) (parts z.node)) f.1 (function_within h i (length arena.pending) (length whole.pending) (omega arith))
      ]

  filled : (k : ℕ) → k < length whole.pending → (j : NodeId) × (slice_get whole.filled k ≡ Some (Some j)) × Holds more kept (at j) (more k)
  filled k l = elim (le_or_lt (length arena.pending) k) [
    | inl g ↦ (let same : length arena.pending ≡ k = (let m : length whole.pending ≡ length arena.pending + 1 = one_more in omega arith) in
        subst (λ z. (j : NodeId) × (slice_get whole.filled z ≡ Some (Some j)) × Holds more kept (at j) (more z)) same (id, filled_here, body_held))
    | inr g ↦ (let f = is.filled k g in (
      f.0,
      filled_before k g ∙ get_front arena.filled None k (Some f.0) f.1,
      subst (λ z. Holds more kept (at f.0) z) (same_below (length arena.pending) body bodies k g) (part_still arena bodies kept more grows (at f.0) (bodies k) tt f.2),
    ))
  ]

  functions : (k : ℕ) (p : Pending) (j : NodeId) → slice_get whole.pending k ≡ Some p → slice_get whole.filled k ≡ Some (Some j) → IsFunction whole more p j
  functions k p j e f = elim (get_pushed arena.pending pend k p e) [
    | inl g ↦ (
        let l : k < length arena.pending = slice_get_within arena.pending k p g in
        elim (get_pushed arena.filled None k (Some j) (sym (filled_before k l) ∙ f)) [
          | inl i ↦ function_still arena bodies kept more grows whole p j refl (is.functions k p j g i)
          | inr i ↦ absurd (none-some j i.1)
        ])
    | inr g ↦ (
        let same : id ≡ j = same_Some id j (same_Some (Some id) (Some j) (sym (subst (λ z. slice_get whole.filled z ≡ Some (Some id)) (sym g.0) filled_here) ∙ f)) in
        subst (λ z. IsFunction whole more z j) g.1 (subst (λ z. IsFunction whole more pend z) same is_function))
  ]

  pub read_with_function : IsRead (declaring h scope b from to arena) (bodies_with (length arena.pending) (Made production.Body b.from b.to (Cons ts Nil)) bodies)
  read_with_function = record {
    as_many =
        (let long : length (arena.filled ++ None ∷ []) ≡ length arena.filled + 1 = length_push arena.filled None in
        let set : length whole.filled ≡ length (arena.filled ++ None ∷ []) = length-set (arena.filled ++ None ∷ []) (length arena.pending) (Some id) in
        let same : length arena.filled ≡ length arena.pending = is.as_many in
        let m : length whole.pending ≡ length arena.pending + 1 = one_more in
        omega arith);
    names = names;
    filled = filled;
    functions = functions;
  }

  pub grows_by_function : Grows arena bodies (declaring h scope b from to arena).kept (bodies_with (length arena.pending) (Made production.Body b.from b.to (Cons ts Nil)) bodies)
  grows_by_function = grows

  -- the function's own node is there, and its body is the one that was added
  pub function_there : slice_get (declaring h scope b from to arena).kept (length arena.kept + 1) ≡ Some (record { node = function_of h (record { number = length arena.pending }); from = from; to = to })
  function_there = ap (slice_get kept) (sym (length_push arena.kept (body_node b scope))) ∙ get_last before function
