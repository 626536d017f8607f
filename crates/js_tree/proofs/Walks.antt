-- What stands on the stack of a walk has the texts of what was looked into.
use Rattle.std.proofs.Common.{◌≡◌, ℕ, ◌<◌, Bool, true, false, List, [], ◌∷◌, ◌++◌, length, reverse, Option, Some, None, refl, sym, ap, subst, ◌∙◌, append_assoc, arith}
use Rattle.std.specs.Option.{option_map}
use Rattle.std.proofs.lemmas.List.{append-nil, reverse-append}
use Rattle.js_tree.specs.declared.node.NodeId.{NodeId}
use Rattle.js_tree.specs.declared.node.Entry.{Entry}
use Rattle.js_tree.specs.declared.node.Declarator.{Declarator}
use Rattle.js_tree.specs.declared.node.Case.{Case}
use Rattle.js_tree.specs.declared.node.Catch.{Catch}
use Rattle.js_tree.specs.declared.node.Node.{Node}
use Rattle.js_tree.specs.declared.node.Node.TheVariants as node
use Rattle.js_tree.specs.declared.production.Production.{Production}
use Rattle.js_tree.specs.declared.production.Production.TheVariants as production
use Rattle.js_tree.specs.declared.script.Kept.{Kept}
use Rattle.js_tree.specs.declared.walk.Item.{Item}
use Rattle.js_tree.specs.declared.walk.Item.TheVariants as item
use Rattle.js_tree.specs.declared.walk.Wanted.{Wanted}
use Rattle.js_tree.specs.declared.walk.Wanted.TheVariants.{Vars, Variables}
use Rattle.js_tree.specs.Trees.{Tree, Part, Made, At, Body, Word, Missing, Nil, Cons, Holds, parts, production_of, nodes, elements, entries, declarators, cases, caught, at_last, named, perhaps}
use Rattle.js_tree.specs.Names.{texts_in}
use Rattle.js_tree.specs.Arena.{Arena, IsWithin, node_at}
use Rattle.js_tree.specs.Walk.{wants, items_in, inside, inside_in, opened, test_of, text_of, part_of}
use Rattle.js_tree.proofs.Arenas.{within_more}

-- no function's body is named
abbrev NoBody : Part → Type 0
NoBody (Body k) = ⊥
NoBody (Cons p q) = NoBody p × NoBody q
NoBody _ = Unit {0}

nodes_plain : (ids : List NodeId) → NoBody (nodes ids)
nodes_plain [] = tt
nodes_plain (id ∷ ids) = (tt, nodes_plain ids)

perhaps_plain : (id : Option NodeId) → NoBody (perhaps id)
perhaps_plain None = tt
perhaps_plain (Some id) = tt

named_plain : (name : Option (List ℕ)) → NoBody (named name)
named_plain None = tt
named_plain (Some name) = tt

elements_plain : (ids : List (Option NodeId)) → NoBody (elements ids)
elements_plain [] = tt
elements_plain (id ∷ ids) = (perhaps_plain id, elements_plain ids)

entries_plain : (es : List Entry) → NoBody (entries es)
entries_plain [] = tt
entries_plain (e ∷ es) = ((tt, (tt, tt)), entries_plain es)

declarators_plain : (ds : List Declarator) → NoBody (declarators ds)
declarators_plain [] = tt
declarators_plain (d ∷ ds) = ((tt, (perhaps_plain d.value, tt)), declarators_plain ds)

cases_plain : (cs : List Case) → NoBody (cases cs)
cases_plain [] = tt
cases_plain (c ∷ cs) = ((perhaps_plain c.test, (nodes_plain c.statements, tt)), cases_plain cs)

caught_plain : (c : Option Catch) → NoBody (caught c)
caught_plain None = tt
caught_plain (Some c) = (tt, (nodes_plain c.statements, tt))

last_plain : (ids : Option (List NodeId)) → NoBody (at_last ids)
last_plain None = tt
last_plain (Some ids) = nodes_plain ids

abbrev IsNoFunction : Node → Type 0
IsNoFunction (node.Function _ _) = ⊥
IsNoFunction (node.Declaration _ _) = ⊥
IsNoFunction _ = Unit {0}

plain : (n : Node) → IsNoFunction n → NoBody (parts n)
plain (node.Function _ _) clean = absurd clean
plain (node.Declaration _ _) clean = absurd clean
plain (node.Array es) clean = (elements_plain es, tt)
plain (node.Object es) clean = (entries_plain es, tt)
plain (node.Call f xs) clean = (tt, (nodes_plain xs, tt))
plain (node.New f xs) clean = (tt, (nodes_plain xs, tt))
plain (node.Block ss) clean = (nodes_plain ss, tt)
plain (node.Var ds) clean = (declarators_plain ds, tt)
plain (node.If e s t) clean = (tt, (tt, (perhaps_plain t, tt)))
plain (node.For a b c s) clean = (perhaps_plain a, (perhaps_plain b, (perhaps_plain c, (tt, tt))))
plain (node.Continue l) clean = (named_plain l, tt)
plain (node.Break l) clean = (named_plain l, tt)
plain (node.Return e) clean = (perhaps_plain e, tt)
plain (node.Switch e cs) clean = (tt, (cases_plain cs, tt))
plain (node.Try t) clean = (nodes_plain t.value.block, (caught_plain t.value.catch, (last_plain t.value.finally, tt)))
plain (node.Program ss _) clean = (nodes_plain ss, tt)
plain (node.Handler ss _) clean = (nodes_plain ss, tt)
plain (node.Body ss _) clean = (nodes_plain ss, tt)
plain node.This clean = tt
plain node.Null clean = tt
plain (node.Bool _) clean = tt
plain (node.Number _) clean = tt
plain node.Empty clean = tt
plain (node.Name _) clean = (tt, tt)
plain (node.Text _) clean = (tt, tt)
plain (node.Member _ _) clean = (tt, (tt, tt))
plain (node.Index _ _) clean = (tt, (tt, tt))
plain (node.Postfix _ _) clean = (tt, tt)
plain (node.Prefix _ _) clean = (tt, tt)
plain (node.Unary _ _) clean = (tt, tt)
plain (node.Binary _ _ _) clean = (tt, (tt, tt))
plain (node.And _ _) clean = (tt, (tt, tt))
plain (node.Or _ _) clean = (tt, (tt, tt))
plain (node.Conditional _ _ _) clean = (tt, (tt, (tt, tt)))
plain (node.Assign _ _ _) clean = (tt, (tt, tt))
plain (node.Comma _ _) clean = (tt, (tt, tt))
plain (node.Expression _) clean = (tt, tt)
plain (node.DoWhile _ _) clean = (tt, (tt, tt))
plain (node.While _ _) clean = (tt, (tt, tt))
plain (node.ForIn _ _ _) clean = (tt, (tt, (tt, tt)))
plain (node.Labelled _ _) clean = (tt, (tt, tt))
plain (node.Throw _) clean = (tt, tt)

-- a node's texts are its own, wherever it stands
made_texts : (of : Production → Bool) (here there : Bool) (p : Production) (from to : ℕ) (ts : Tree) → texts_in of here (Made p from to ts) ≡ texts_in of there (Made p from to ts)
made_texts of here there production.Function from to ts = refl
made_texts of here there production.Declaration from to ts = refl
made_texts of here there p from to ts = refl

-- what was found stays where the items of a part are put in front
flat : (of : Production → Bool) (bodies : ℕ → Tree) (kept : List Kept) (here : Bool) (p : Part) → NoBody p
    → (t : Tree) → Holds bodies kept p t → (rest : List Item) (u : Tree) → Holds bodies kept (part_of rest) u
    → (v : Tree) × Holds bodies kept (part_of (items_in here p ++ rest)) v × (texts_in of true v ≡ texts_in of here t ++ texts_in of true u)
flat of bodies kept here (At i) clean (Made p from to ts) h rest u g = (Cons (Made p from to ts) u, (h, g), ap (λ l. l ++ texts_in of true u) (made_texts of true here p from to ts))
flat of bodies kept here (At i) clean (Word _) h rest u g = absurd h
flat of bodies kept here (At i) clean Missing h rest u g = absurd h
flat of bodies kept here (At i) clean Nil h rest u g = absurd h
flat of bodies kept here (At i) clean (Cons _ _) h rest u g = absurd h
flat of bodies kept here (Body k) clean t h rest u g = absurd clean
flat of bodies kept true (Word s) clean (Word t) h rest u g = (Cons (Word t) u, (h, g), refl)
flat of bodies kept false (Word s) clean (Word t) h rest u g = (u, g, refl)
flat of bodies kept here (Word s) clean (Made _ _ _ _) h rest u g = absurd h
flat of bodies kept here (Word s) clean Missing h rest u g = absurd h
flat of bodies kept here (Word s) clean Nil h rest u g = absurd h
flat of bodies kept here (Word s) clean (Cons _ _) h rest u g = absurd h
flat of bodies kept here Missing clean Missing h rest u g = (u, g, refl)
flat of bodies kept here Missing clean (Made _ _ _ _) h rest u g = absurd h
flat of bodies kept here Missing clean (Word _) h rest u g = absurd h
flat of bodies kept here Missing clean Nil h rest u g = absurd h
flat of bodies kept here Missing clean (Cons _ _) h rest u g = absurd h
flat of bodies kept here Nil clean Nil h rest u g = (u, g, refl)
flat of bodies kept here Nil clean (Made _ _ _ _) h rest u g = absurd h
flat of bodies kept here Nil clean (Word _) h rest u g = absurd h
flat of bodies kept here Nil clean Missing h rest u g = absurd h
flat of bodies kept here Nil clean (Cons _ _) h rest u g = absurd h
flat of bodies kept here (Cons p q) clean (Cons t s) h rest u g =
    let back = flat of bodies kept here q clean.1 s h.1 rest u g in
    let front = flat of bodies kept here p clean.0 t h.0 (items_in here q ++ rest) back.0 back.1 in (
      front.0,
      subst (λ l. Holds bodies kept (part_of l) front.0) (sym (append_assoc (items_in here p) (items_in here q) rest)) front.1,
      front.2 ∙ ap (λ l. texts_in of here t ++ l) back.2 ∙ sym (append_assoc (texts_in of here t) (texts_in of here s) (texts_in of true u)),
    )
flat of bodies kept here (Cons p q) clean (Made _ _ _ _) h rest u g = absurd h
flat of bodies kept here (Cons p q) clean (Word _) h rest u g = absurd h
flat of bodies kept here (Cons p q) clean Missing h rest u g = absurd h
flat of bodies kept here (Cons p q) clean Nil h rest u g = absurd h

-- a walk begins with the statements
pub begun : (of : Production → Bool) (bodies : ℕ → Tree) (kept : List Kept) (ids : List NodeId) (t : Tree) → Holds bodies kept (nodes ids) t
    → (u : Tree) × Holds bodies kept (part_of (items_in false (nodes ids) ++ [])) u × (texts_in of false t ≡ texts_in of true u)
begun of bodies kept ids t h =
    let all = flat of bodies kept false (nodes ids) (nodes_plain ids) t h [] Nil tt in
    (all.0, all.1, sym (all.2 ∙ append-nil (texts_in of false t)))

-- what stands in a node has the node's texts
node_opened : (w : Wanted) (bodies : ℕ → Tree) (kept : List Kept) (n : Node) (from to : ℕ) (ts : Tree) → Holds bodies kept (parts n) ts → (rest : List Item) (u : Tree) → Holds bodies kept (part_of rest) u
    → (v : Tree) × Holds bodies kept (part_of (inside w n ++ rest)) v × (texts_in (wants w) true v ≡ texts_in (wants w) true (Made (production_of n) from to ts) ++ texts_in (wants w) true u)
node_opened w bodies kept (node.Function _ _) from to ts h rest u g = (u, g, refl)
node_opened w bodies kept (node.Declaration _ _) from to ts h rest u g = (u, g, refl)
node_opened w bodies kept n from to ts h rest u g = flat (wants w) bodies kept (wants w (production_of n)) (parts n) (plain n tt) ts h rest u g

-- a walk goes on where a node on top is replaced by what stands in it
went_in : (w : Wanted) (bodies : ℕ → Tree) (arena : Arena) (id : NodeId) (rest : List Item) (t : Tree) → Holds bodies arena.kept (part_of (item.At id ∷ rest)) t
    → (v : Tree) × Holds bodies arena.kept (part_of (inside_in w (node_at arena id) ++ rest)) v × (texts_in (wants w) true t ≡ texts_in (wants w) true v)
went_in w bodies arena id rest (Cons (Made p from to ts) u) h =
    let there = h.0 in
    let inner = node_opened w bodies arena.kept there.0.node from to ts there.5 rest u h.1 in (
      inner.0,
      subst (λ n. Holds bodies arena.kept (part_of (inside_in w n ++ rest)) inner.0) (sym (ap (option_map (λ (k : Kept). k.node)) there.1)) inner.1,
      sym (inner.2 ∙ ap (λ p. texts_in (wants w) true (Made p from to ts) ++ texts_in (wants w) true u) there.2),
    )
went_in w bodies arena id rest (Cons (Word _) u) h = absurd h.0
went_in w bodies arena id rest (Cons Missing u) h = absurd h.0
went_in w bodies arena id rest (Cons Nil u) h = absurd h.0
went_in w bodies arena id rest (Cons (Cons _ _) u) h = absurd h.0
went_in w bodies arena id rest (Made _ _ _ _) h = absurd h
went_in w bodies arena id rest (Word _) h = absurd h
went_in w bodies arena id rest Missing h = absurd h
went_in w bodies arena id rest Nil h = absurd h

-- a text on top is the next one
pub took : (of : Production → Bool) (bodies : ℕ → Tree) (kept : List Kept) (text : List ℕ) (rest : List Item) (t : Tree) → Holds bodies kept (part_of (item.Word text ∷ rest)) t
    → (v : Tree) × Holds bodies kept (part_of rest) v × (texts_in of true t ≡ text ∷ texts_in of true v)
took of bodies kept text rest (Cons (Word s) u) h = (u, h.1, ap (λ s. s ∷ texts_in of true u) (sym h.0))
took of bodies kept text rest (Cons (Made _ _ _ _) u) h = absurd h.0
took of bodies kept text rest (Cons Missing u) h = absurd h.0
took of bodies kept text rest (Cons Nil u) h = absurd h.0
took of bodies kept text rest (Cons (Cons _ _) u) h = absurd h.0
took of bodies kept text rest (Made _ _ _ _) h = absurd h
took of bodies kept text rest (Word _) h = absurd h
took of bodies kept text rest Missing h = absurd h
took of bodies kept text rest Nil h = absurd h

-- nothing is left where the stack is empty
pub nothing : (of : Production → Bool) (bodies : ℕ → Tree) (kept : List Kept) (t : Tree) → Holds bodies kept Nil t → texts_in of true t ≡ []
nothing of bodies kept Nil h = refl
nothing of bodies kept (Made _ _ _ _) h = absurd h
nothing of bodies kept (Word _) h = absurd h
nothing of bodies kept Missing h = absurd h
nothing of bodies kept (Cons _ _) h = absurd h

-- the items of a part that is there are there
items_within : (count bodies : ℕ) (here : Bool) (p : Part) → IsWithin count bodies p → (rest : List Item) → IsWithin count bodies (part_of rest) → IsWithin count bodies (part_of (items_in here p ++ rest))
items_within count bodies here (At i) h rest g = (h, g)
items_within count bodies here (Body k) h rest g = g
items_within count bodies true (Word t) h rest g = (tt, g)
items_within count bodies false (Word t) h rest g = g
items_within count bodies here Missing h rest g = g
items_within count bodies here Nil h rest g = g
items_within count bodies here (Cons p q) h rest g =
    subst (λ l. IsWithin count bodies (part_of l)) (sym (append_assoc (items_in here p) (items_in here q) rest))
    (items_within count bodies here p h.0 (items_in here q ++ rest) (items_within count bodies here q h.1 rest g))

pub begun_within : (count bodies : ℕ) (ids : List NodeId) → IsWithin count bodies (nodes ids) → IsWithin count bodies (part_of (items_in false (nodes ids) ++ []))
begun_within count bodies ids h = items_within count bodies false (nodes ids) h [] tt

-- so are those that stand in a node of the arena
pub opened_within : (w : Wanted) (count bodies : ℕ) (n : Node) → IsWithin count bodies (parts n) → (rest : List Item) → IsWithin count bodies (part_of rest) → IsWithin count bodies (part_of (inside w n ++ rest))
opened_within w count bodies (node.Function _ _) h rest g = g
opened_within w count bodies (node.Declaration _ _) h rest g = g
opened_within w count bodies n h rest g = items_within count bodies (wants w (production_of n)) (parts n) h rest g

-- a walk over these statements has found these texts, and these items are left, the next in front
pub record IsWalked (of : Production → Bool) (arena : Arena) (ids : List NodeId) (found : List (List ℕ)) (left : List Item) : Type 0 where
  pub within : IsWithin (length arena.kept) (length arena.pending) (part_of left)
  pub reads : (bodies : ℕ → Tree) (t : Tree) → Holds bodies arena.kept (nodes ids) t → (u : Tree) × Holds bodies arena.kept (part_of left) u × (texts_in of false t ≡ found ++ texts_in of true u)

pub walk_begun : (of : Production → Bool) (arena : Arena) (ids : List NodeId) → IsWithin (length arena.kept) (length arena.pending) (nodes ids)
    → (left rest : List Item) → left ≡ items_in false (nodes ids) ++ rest → rest ≡ [] → (found : List (List ℕ)) → found ≡ [] → IsWalked of arena ids found left
walk_begun of arena ids within left rest e none found f =
    let start : IsWalked of arena ids [] (items_in false (nodes ids) ++ []) = record {
      within = begun_within (length arena.kept) (length arena.pending) ids within;
      reads = λ b t h. begun of b arena.kept ids t h;
    } in
    subst (λ l. IsWalked of arena ids l left) (sym f) (subst (IsWalked of arena ids []) (sym (e ∙ ap (λ l. items_in false (nodes ids) ++ l) none)) start)

-- an item on top gives way to what stands in it, and its text is found
looked : (w : Wanted) (bodies : ℕ → Tree) (arena : Arena) (i : Item) (rest : List Item) (t : Tree) → Holds bodies arena.kept (part_of (i ∷ rest)) t
    → (v : Tree) × Holds bodies arena.kept (part_of (opened w arena i ++ rest)) v × (texts_in (wants w) true t ≡ text_of i ++ texts_in (wants w) true v)
looked w bodies arena (item.At id) rest t h = went_in w bodies arena id rest t h
looked w bodies arena (item.Word text) rest t h = took (wants w) bodies arena.kept text rest t h

pub walk_looked : (w : Wanted) (arena : Arena) (ids : List NodeId) (found : List (List ℕ)) (i : Item) (rest : List Item)
    → IsWalked (wants w) arena ids found (i ∷ rest)
    → (left : List Item) → left ≡ opened w arena i ++ rest → IsWithin (length arena.kept) (length arena.pending) (part_of left)
    → (more : List (List ℕ)) → more ≡ found ++ text_of i → IsWalked (wants w) arena ids more left
walk_looked w arena ids found i rest is left e within more f = record {
  within = within;
  reads = λ b t h.
      let old = is.reads b t h in
      let new = looked w b arena i rest old.0 old.1 in (
        new.0,
        subst (λ l. Holds b arena.kept (part_of l) new.0) (sym e) new.1,
        old.2 ∙ ap (λ l. found ++ l) new.2 ∙ sym (append_assoc found (text_of i) (texts_in (wants w) true new.0)) ∙ ap (λ l. l ++ texts_in (wants w) true new.0) (sym f),
      );
}

same_test : (w : Wanted) (p : Production) → wants w p ≡ test_of w p
same_test Vars production.Name = refl
same_test Vars production.Var = refl
same_test Vars production.Try = refl
same_test Vars p = refl
same_test Variables production.Name = refl
same_test Variables production.Var = refl
same_test Variables production.Try = refl
same_test Variables p = refl

pub walk_ended : (w : Wanted) (arena : Arena) (ids : List NodeId) (found : List (List ℕ)) (left : List Item) → left ≡ []
    → IsWalked (wants w) arena ids found left → (b : ℕ → Tree) (t : Tree) → Holds b arena.kept (nodes ids) t → found ≡ texts_in (test_of w) false t
walk_ended w arena ids found left e is b t h =
    let done = subst (IsWalked (wants w) arena ids found) e is in
    let old = done.reads b t h in
    sym (old.2 ∙ ap (λ l. found ++ l) (nothing (wants w) b arena.kept old.0 old.1) ∙ append-nil found) ∙ (λ i. texts_in (λ p. same_test w p i) false t)

pub top_is : (stack rest : List Item) (i : Item) → stack ≡ rest ++ i ∷ [] → reverse stack ≡ i ∷ reverse rest
top_is stack rest i e = ap reverse e ∙ reverse-append rest (i ∷ [])

pub node_within : (w : Wanted) (count bodies : ℕ) (i : Item) (id : NodeId) → i ≡ item.At id → (rest : List Item) → IsWithin count bodies (part_of (i ∷ rest))
    → (n : Node) → IsWithin id.number bodies (parts n) → (left : List Item) → left ≡ inside w n ++ rest → IsWithin count bodies (part_of left)
node_within w count bodies i id is rest within n inner left e =
    let all = subst (λ i. IsWithin count bodies (part_of (i ∷ rest))) is within in
    let there : id.number < count = all.0 in
    subst (λ l. IsWithin count bodies (part_of l)) (sym e)
    (opened_within w count bodies n (within_more id.number bodies count bodies (omega arith) (omega arith) (parts n) inner) rest all.1)
