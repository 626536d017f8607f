-- Texts that are run are read, and functions stand at their units.
use Rattle.std.proofs.Common.{◌≡◌, ℕ, suc, ◌-◌, ◌<◌, ◌&&◌, ◌==◌, Bool, true, false}
use Rattle.std.proofs.Common.{if◌then◌else◌, List, [], ◌∷◌, Option, Some, None, length, slice_get}
use Rattle.std.proofs.Common.{refl, ap, sym, ◌∙◌, subst, arith}
use Rattle.std.specs.Prelude.{IfSome, codes}
use Rattle.std.specs.Option.{option_map}
use Rattle.std.specs.Global.{Box}
use Rattle.std.proofs.lemmas.Bool.Decides.{nat_tests}
use Rattle.std.proofs.lemmas.Option.{none-some, same_Some, slice_get_within}
use Rattle.js_tree.specs.Arena.{Arena, IsOrdered, begins_at, ends_handler, first_of}
use Rattle.js_tree.specs.Arena.{function_among, function_at, function_of}
use Rattle.js_tree.specs.Arena.{is_handler, node_at, scope, scope_by, scope_in, scope_of_body}
use Rattle.js_tree.specs.Runs.{IsRunnableText, RootHasScope}
use Rattle.js_tree.specs.Runs as runs
use Rattle.js_tree.specs.TreeAt.{body_at, tree_at, tree_of}
use Rattle.js_tree.specs.Trees.{nodes}
use Rattle.js_tree.specs.declared.node.BodyId.{BodyId}
use Rattle.js_tree.specs.declared.node.DeclarationHead.{DeclarationHead}
use Rattle.js_tree.specs.declared.node.ExpressionHead.{ExpressionHead}
use Rattle.js_tree.specs.declared.node.Node.{Node}
use Rattle.js_tree.specs.declared.node.Node.TheVariants as node
use Rattle.js_tree.specs.declared.node.NodeId.{NodeId}
use Rattle.js_tree.specs.declared.node.Scope.{Scope}
use Rattle.js_tree.specs.declared.script.FunctionHead.{FunctionHead}
use Rattle.js_tree.specs.declared.script.FunctionHead.TheVariants as head
use Rattle.js_tree.specs.declared.script.Kept.{Kept}
use Rattle.js_tree.specs.declared.script.Pending.{Pending}
use Rattle.js_calls.proofs.FilledBodies.{body_read}
use Rattle.js_calls.proofs.NodeTrees.{declaration_made, function_made, node_tree}
use Rattle.js_calls.specs.Calls.{Function, function_in, scope_of, statements_in}
use Rattle.js_calls.specs.Texts.{HasScope, IsProgram, IsProgramKept, IsProgramNode, IsRead}
use Rattle.js_calls.specs.Texts.{body_unit, is_program, last_node, unit_of_kept}

-- a function among some that begins at a unit
record Among (kept : List Kept) (ps : List Pending) (unit : ℕ) (id : NodeId) : Type 0 where
  k : ℕ
  p : Pending
  at : slice_get ps k ≡ Some p
  is : p.node ≡ id
  begins : begins_at unit (slice_get kept p.node.number) ≡ true

later : (kept : List Kept) (p : Pending) (ps : List Pending) (unit : ℕ) (id : NodeId)
    → Among kept ps unit id → Among kept (p ∷ ps) unit id
later kept p ps unit id m =
    record { k = suc m.k; p = m.p; at = m.at; is = m.is; begins = m.begins }

among_more : (kept : List Kept) (p : Pending) (ps : List Pending) (unit : ℕ) (id : NodeId)
    (o : Option NodeId) (b : Bool) → (o ≡ Some id → Among kept ps unit id)
    → begins_at unit (slice_get kept p.node.number) ≡ b
    → first_of o (if b then Some p.node else None) ≡ Some id → Among kept (p ∷ ps) unit id
among_more kept p ps unit id (Some q) b rest t e = later kept p ps unit id (rest e)
among_more kept p ps unit id None true rest t e =
    record { k = 0; p = p; at = refl; is = same_Some p.node id e; begins = t }
among_more kept p ps unit id None false rest t e = absurd (none-some id e)

among : (kept : List Kept) (ps : List Pending) (unit : ℕ) (id : NodeId)
    → function_among kept ps unit ≡ Some id → Among kept ps unit id
among kept [] unit id e = absurd (none-some id e)
among kept (p ∷ ps) unit id e =
    among_more kept p ps unit id (function_among kept ps unit)
    (begins_at unit (slice_get kept p.node.number)) (among kept ps unit id) refl e

and_first : (b c : Bool) → b && c ≡ true → b ≡ true
and_first true c e = refl
and_first false c e = e

and_second : (b c : Bool) → b && c ≡ true → c ≡ true
and_second true c e = e
and_second false c e = absurd cc

same_number : (m n : ℕ) → m == n ≡ true → m ≡ n
same_number m n e = grind (arith, nat_tests)

-- what a unit names: a function among those that have a body, or the handler that ends there
module _ (a : Arena) (unit : ℕ) where
  abbrev last : NodeId
  last = record { number = length a.kept - 1 }

  by_either : {X : Type 0} (id : NodeId) (b : Bool)
      → ends_handler unit (slice_get a.kept last.number) ≡ b
      → first_of (if b then Some last else None) (function_among a.kept a.pending unit) ≡ Some id
      → (Among a.kept a.pending unit id → X)
      → (last ≡ id → ends_handler unit (slice_get a.kept last.number) ≡ true → X) → X
  by_either id true t e f g = g (same_Some last id e) t
  by_either id false t e f g = f (among a.kept a.pending unit id e)

  named_by : {X : Type 0} (id : NodeId) → function_at a unit ≡ Some id
      → (Among a.kept a.pending unit id → X)
      → (last ≡ id → ends_handler unit (slice_get a.kept last.number) ≡ true → X) → X
  named_by id e f g =
      by_either id (ends_handler unit (slice_get a.kept last.number)) refl e f g

-- the scopes that functions carry
module _ (a : Arena) (ordered : IsOrdered a) where
  -- a function whose body is read carries the scope of its statements
  carried : (id : NodeId) (s : Scope) (f : Function) → scope a id ≡ Some s → s ≡ scope_of f
      → f ≡ function_in (tree_at a id) → HasScope a id
  carried id s f is t same =
      subst (λ o. IfSome o (λ x. x ≡ scope_of (function_in (tree_at a id)))) (sym is)
      (t ∙ ap scope_of same)

  abbrev numbered : ℕ → BodyId
  numbered k = record { number = k }

  module _ (id body : NodeId) (k : ℕ) (filled : slice_get a.filled k ≡ Some (Some body))
      (read : body_at a k ≡ tree_at a body) where
    statements_read : (ss : List NodeId) (b : Box Scope) → node_at a body ≡ Some (node.Body ss b)
        → tree_of a (nodes ss) ≡ statements_in (body_at a k)
    statements_read ss b e =
        sym (ap statements_in (read ∙ (node_tree a ordered body (node.Body ss b) e).is))

    scope_read : (n : Node) (ss : List NodeId) (b : Box Scope) → node_at a id ≡ Some n
        → scope_by a (Some n) ≡ scope_of_body a (slice_get a.filled k)
        → node_at a body ≡ Some (node.Body ss b) → scope a id ≡ Some b.value
    scope_read n ss b e by body_is =
        ap (scope_by a) e ∙ by ∙ ap (scope_of_body a) filled ∙ ap scope_in body_is

    expression_scope : (h : Box ExpressionHead) (o : Option Node)
        → node_at a id ≡ Some (node.Function h (numbered k)) → node_at a body ≡ o
        → runs.HasScope a (Some (node.Function h (numbered k))) o → HasScope a id
    expression_scope h (Some (node.Body ss b)) e body_is t =
        carried id b.value
        (record {
          own = h.value.name;
          parameters = h.value.parameters;
          statements = tree_of a (nodes ss);
        })
        (scope_read (node.Function h (numbered k)) ss b e refl body_is) t
        (function_made a h.value.name h.value.parameters (tree_of a (nodes ss)) k
        (statements_read ss b body_is)
        ∙ ap function_in (sym (node_tree a ordered id (node.Function h (numbered k)) e).is))
    expression_scope h o e body_is t = absurd t

    declaration_scope : (h : Box DeclarationHead) (o : Option Node)
        → node_at a id ≡ Some (node.Declaration h (numbered k)) → node_at a body ≡ o
        → runs.HasScope a (Some (node.Declaration h (numbered k))) o → HasScope a id
    declaration_scope h (Some (node.Body ss b)) e body_is t =
        carried id b.value
        (record { own = None; parameters = h.value.parameters; statements = tree_of a (nodes ss) })
        (scope_read (node.Declaration h (numbered k)) ss b e refl body_is) t
        (declaration_made a h.value.parameters (tree_of a (nodes ss)) k
        (statements_read ss b body_is)
        ∙ ap function_in (sym (node_tree a ordered id (node.Declaration h (numbered k)) e).is))
    declaration_scope h o e body_is t = absurd t

    head_scope : (f : FunctionHead) → node_at a id ≡ Some (function_of f (numbered k))
        → runs.HasScope a (Some (function_of f (numbered k))) (node_at a body) → HasScope a id
    head_scope (head.Expression h) e t = expression_scope h (node_at a body) e refl t
    head_scope (head.Declaration h) e t = declaration_scope h (node_at a body) e refl t

  handler_scope : (id : NodeId) (n : Node) → node_at a id ≡ Some n → is_handler n ≡ true
      → RootHasScope a (Some n) → HasScope a id
  handler_scope id (node.Handler ss b) e h t =
      carried id b.value
      (record { own = None; parameters = codes "event" ∷ []; statements = tree_of a (nodes ss) })
      (ap (scope_by a) e) t
      (ap function_in (sym (node_tree a ordered id (node.Handler ss b) e).is))
  handler_scope id n e h t = absurd cc

module _ (a : Arena) (ordered : IsOrdered a) (run : IsRunnableText a) where
  filled_read : (k : ℕ) (id : NodeId) → slice_get a.filled k ≡ Some (Some id)
      → body_at a k ≡ tree_at a id
  filled_read k id e = body_read (body_at a) a ordered run.filled k id e

  among_scope : (unit : ℕ) (id : NodeId) → Among a.kept a.pending unit id → HasScope a id
  among_scope unit id m =
      let few : m.k < length a.pending = slice_get_within a.pending m.k m.p m.at in
      let body = run.filled m.k few in
      let named = ordered.named m.k m.p m.at in
      let scope = run.functions m.k m.p body.0 m.at body.1 in
      subst (HasScope a) m.is
      (head_scope a ordered m.p.node body.0 m.k body.1 (filled_read m.k body.0 body.1) named.0
      named.1 (subst (λ o. runs.HasScope a o (node_at a body.0)) named.1 scope))

  ends_scope : (unit : ℕ) (id : NodeId) (o : Option Kept) → slice_get a.kept id.number ≡ o
      → RootHasScope a (option_map (λ (k : Kept). k.node) o) → ends_handler unit o ≡ true
      → HasScope a id
  ends_scope unit id None at root t = absurd cc
  ends_scope unit id (Some k) at root t =
      handler_scope a ordered id k.node (ap (option_map (λ (k : Kept). k.node)) at)
      (and_first (is_handler k.node) (k.to == unit) t) root

  unit_scope : (unit : ℕ) (id : NodeId) → function_at a unit ≡ Some id → HasScope a id
  unit_scope unit id e =
      named_by a unit id e (among_scope unit id)
      (λ is t. subst (HasScope a) is
      (ends_scope unit (last a unit) (slice_get a.kept (length a.kept - 1)) refl run.root t))

  pub runnable_read : IsRead a
  runnable_read = record { bodies = filled_read; scopes = unit_scope }

program_kept_node : (a : Arena) (n : Node) → RootHasScope a (Some n) → is_program (Some n) ≡ true
    → IsProgramNode a n
program_kept_node a (node.Program ss b) t e = t
program_kept_node a n t e = absurd cc

-- the root of a program carries its scope
program_node : (a : Arena) (o : Option Kept) → RootHasScope a (option_map (λ (k : Kept). k.node) o)
    → is_program (option_map (λ (k : Kept). k.node) o) ≡ true → IsProgramKept a o
program_node a None t e = absurd cc
program_node a (Some k) t e = program_kept_node a k.node t e

pub runnable_program : (a : Arena) → IsRunnableText a → is_program (last_node a) ≡ true
    → IsProgram a
runnable_program a run e = program_node a (slice_get a.kept (length a.kept - 1)) run.root e

-- a function stands at its unit
no_handler : (f : FunctionHead) (k : ℕ) → is_handler (function_of f (record { number = k })) ≡ false
no_handler (head.Expression h) k = refl
no_handler (head.Declaration h) k = refl

begun : (o : Option Kept) (unit k : ℕ) (f : FunctionHead)
    → option_map (λ (k : Kept). k.node) o ≡ Some (function_of f (record { number = k }))
    → begins_at unit o ≡ true → unit_of_kept o ≡ unit
begun None unit k f e t = absurd cc
begun (Some x) unit k f e t =
    let same = same_Some x.node (function_of f (record { number = k })) e in
    ap (λ b. if b then x.to else x.from) (ap is_handler same ∙ no_handler f k)
    ∙ same_number x.from unit t

ended : (o : Option Kept) (unit : ℕ) → ends_handler unit o ≡ true → unit_of_kept o ≡ unit
ended None unit t = absurd cc
ended (Some x) unit t =
    ap (λ b. if b then x.to else x.from) (and_first (is_handler x.node) (x.to == unit) t)
    ∙ same_number x.to unit (and_second (is_handler x.node) (x.to == unit) t)

pub stands_at : (a : Arena) → IsOrdered a → (unit : ℕ) (id : NodeId)
    → function_at a unit ≡ Some id → body_unit a id ≡ unit
stands_at a ordered unit id e =
    named_by a unit id e
    (λ m. let named = ordered.named m.k m.p m.at in
    subst (λ (i : NodeId). body_unit a i ≡ unit) m.is
    (begun (slice_get a.kept m.p.node.number) unit m.k named.0 named.1 m.begins))
    (λ is t. subst (λ (i : NodeId). body_unit a i ≡ unit) is
    (ended (slice_get a.kept (length a.kept - 1)) unit t))

-- a function that a unit names is there
ended_within : (a : Arena) (n unit : ℕ) (o : Option Kept) → slice_get a.kept n ≡ o
    → ends_handler unit o ≡ true → n < length a.kept
ended_within a n unit None e t = absurd cc
ended_within a n unit (Some x) e t = slice_get_within a.kept n x e

pub stands_within : (a : Arena) → IsOrdered a → (unit : ℕ) (id : NodeId)
    → function_at a unit ≡ Some id → id.number < length a.kept
stands_within a ordered unit id e =
    named_by a unit id e
    (λ m. subst (λ (i : NodeId). i.number < length a.kept) m.is (ordered.functions m.k m.p m.at))
    (λ is t. subst (λ (i : NodeId). i.number < length a.kept) is
    (ended_within a (length a.kept - 1) unit (slice_get a.kept (length a.kept - 1)) refl t))
