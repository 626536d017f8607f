-- Lists with an item more, and pairs.
use Rattle.std.proofs.Common.{◌≡◌, ◌⊎◌, inl, inr, ℕ, true, List, [], ◌∷◌, ◌++◌, Option, Some, None, Result, Ok, Err, OnOk, refl, sym, ◌∙◌, ap, subst}
use Rattle.std.specs.Prelude.{◌&&◌}
use Rattle.mug_text.specs.declared.memory.NoMemory.{NoMemory}
use Rattle.js_tree.specs.declared.node.NodeId.{NodeId}
use Rattle.js_tree.specs.declared.node.Declarator.{Declarator}
use Rattle.js_tree.specs.declared.node.Case.{Case}
use Rattle.js_tree.specs.declared.script.Kept.{Kept}
use Rattle.js_tree.specs.Trees.{Tree, Made, Missing, Nil, Cons, Part, Holds}
use Rattle.js_tree.specs.Trees.{Word as word_tree}
use Rattle.js_tree.specs.Trees.{at, perhaps, nodes, elements, words, declarators, cases, two}
use Rattle.js_grammar.specs.declared.sight.Sight.{Sight}
use Rattle.js_grammar.specs.Derivations.{behind, built}
use Rattle.js_grammar.specs.declared.symbol.Build.TheVariants as build
use Rattle.js_grammar.specs.inner.Sorts.{Sort, is_of, are_of, added, paired, in_front, made}
use Rattle.js_grammar.specs.inner.Sorts as sort
use Rattle.js_pieces.specs.declared.pieces.Piece.{Piece}
use Rattle.js_pieces.specs.declared.pieces.Piece.TheVariants as piece
use Rattle.js_pieces.specs.Lists.{MayAdd, MayPair, IsBehind, Adds, IsPair, Pairs, Names}
use Rattle.js_pieces.specs.Pieces.{HoldsPieces, Becomes, LastIs, joined, sort_of, sort_of_value, sort_of_all, sorts}
use Rattle.js_pieces.proofs.Sorting.{all_is}

-- A list with an item more --------------------------------------------------------------------------

-- a list of parts
abbrev pub all : {A : Type 0} → (A → Part) → List A → Part
all f [] = Part.Nil
all f (x ∷ xs) = Part.Cons (f x) (all f xs)

more : {A : Type 0} (f : A → Part) (xs : List A) (x : A) (bodies : ℕ → Tree) (kept : List Kept) (t u : Tree) →
    Holds bodies kept (all f xs) t → Holds bodies kept (f x) u → Holds bodies kept (all f (xs ++ x ∷ [])) (behind t u)
more f [] x bodies kept Nil u h g = (g, tt)
more f [] x bodies kept (Made q i j ts) u h g = absurd h
more f [] x bodies kept (word_tree t) u h g = absurd h
more f [] x bodies kept Missing u h g = absurd h
more f [] x bodies kept (Cons t ts) u h g = absurd h
more f (y ∷ xs) x bodies kept (Cons t ts) u (a, b) g = (a, more f xs x bodies kept ts u b g)
more f (y ∷ xs) x bodies kept Nil u h g = absurd h
more f (y ∷ xs) x bodies kept (Made q i j ts) u h g = absurd h
more f (y ∷ xs) x bodies kept (word_tree t) u h g = absurd h
more f (y ∷ xs) x bodies kept Missing u h g = absurd h

-- so is one that has the same parts
listed : {A : Type 0} (f : A → Part) (list : List A → Part) → ((xs : List A) → list xs ≡ all f xs) → (xs : List A) (x : A) (bodies : ℕ → Tree) (kept : List Kept) (t u : Tree) →
    Holds bodies kept (list xs) t → Holds bodies kept (f x) u → Holds bodies kept (list (xs ++ x ∷ [])) (behind t u)
listed f list e xs x bodies kept t u h g =
    subst (λ p. Holds bodies kept p (behind t u)) (sym (e (xs ++ x ∷ [])))
    (more f xs x bodies kept t u (subst (λ p. Holds bodies kept p t) (e xs) h) g)

abbrev pub declarator : Declarator → Part
declarator d = two (Part.Word d.name) (perhaps d.value)

abbrev pub clause : Case → Part
clause c = two (perhaps c.test) (nodes c.statements)

abbrev pub word : List ℕ → Part
word t = Part.Word t

pub nodes_all : (ids : List NodeId) → nodes ids ≡ all at ids
nodes_all [] = refl
nodes_all (id ∷ ids) = ap (Part.Cons (at id)) (nodes_all ids)

pub elements_all : (ids : List (Option NodeId)) → elements ids ≡ all perhaps ids
elements_all [] = refl
elements_all (id ∷ ids) = ap (Part.Cons (perhaps id)) (elements_all ids)

words_all : (ts : List (List ℕ)) → words ts ≡ all word ts
words_all [] = refl
words_all (t ∷ ts) = ap (Part.Cons (word t)) (words_all ts)

pub declarators_all : (ds : List Declarator) → declarators ds ≡ all declarator ds
declarators_all [] = refl
declarators_all (d ∷ ds) = ap (Part.Cons (declarator d)) (declarators_all ds)

cases_all : (cs : List Case) → cases cs ≡ all clause cs
cases_all [] = refl
cases_all (c ∷ cs) = ap (Part.Cons (clause c)) (cases_all cs)

-- Sorts ---------------------------------------------------------------------------------------------

itself : (c : Sort) → is_of c c ≡ true
itself sort.Node = refl
itself _ = refl

some_is : {c d : Sort} → Some c ≡ Some d → c ≡ d
some_is e = cc

same_sort : (d c : Sort) → Some d ≡ Some c → is_of d c ≡ true
same_sort d c e = subst (λ z. is_of d z ≡ true) (some_is e) (itself d)

joined_swap : (v w : Option NodeId) (s : Sort) → joined (sort_of_value v) (joined (sort_of_value w) s) ≡ joined (sort_of_value w) (joined (sort_of_value v) s)
joined_swap None None s = refl
joined_swap None (Some j) s = refl
joined_swap (Some i) None s = refl
joined_swap (Some i) (Some j) s = refl

all_more : (ds : List Declarator) (d : Declarator) → sort_of_all (ds ++ d ∷ []) ≡ joined (sort_of_value d.value) (sort_of_all ds)
all_more [] d = refl
all_more (e ∷ ds) d = ap (joined (sort_of_value e.value)) (all_more ds d) ∙ joined_swap e.value d.value (sort_of_all ds)

entries_more : (v : Option NodeId) (c : Sort) → added sort.Entries (sort_of_value v) ≡ Some c → is_of (joined (sort_of_value v) sort.Entries) c ≡ true
entries_more None c e = same_sort sort.Declarators c e
entries_more (Some id) c e = same_sort sort.Entries c e

declarators_more : (v : Option NodeId) (c : Sort) → added sort.Declarators (sort_of_value v) ≡ Some c → is_of (joined (sort_of_value v) sort.Declarators) c ≡ true
declarators_more None c e = same_sort sort.Declarators c e
declarators_more (Some id) c e = same_sort sort.Declarators c e

first_more : (v : Option NodeId) (c : Sort) → added sort.Empty (sort_of_value v) ≡ Some c → is_of (joined (sort_of_value v) sort.Entries) c ≡ true
first_more None c e = same_sort sort.Declarators c e
first_more (Some id) c e = same_sort sort.Entries c e

names_more : (s : Sort) → (s ≡ sort.Entries) ⊎ (s ≡ sort.Declarators) → (v : Option NodeId) (c : Sort) → added s (sort_of_value v) ≡ Some c → is_of (joined (sort_of_value v) s) c ≡ true
names_more s (inl h) v c e = subst (λ z. is_of (joined (sort_of_value v) z) c ≡ true) (sym h) (entries_more v c (ap (λ z. added z (sort_of_value v)) (sym h) ∙ e))
names_more s (inr h) v c e = subst (λ z. is_of (joined (sort_of_value v) z) c ≡ true) (sym h) (declarators_more v c (ap (λ z. added z (sort_of_value v)) (sym h) ∙ e))

-- What is put behind what ---------------------------------------------------------------------------

pub node_first : (id : NodeId) → IsBehind piece.Empty (piece.Node id) (piece.Nodes (id ∷ []))
node_first id = record { trees = listed at nodes nodes_all [] id; sort = λ c e. same_sort sort.Nodes c e }

pub node_behind : (ids : List NodeId) (id : NodeId) → IsBehind (piece.Nodes ids) (piece.Node id) (piece.Nodes (ids ++ id ∷ []))
node_behind ids id = record { trees = listed at nodes nodes_all ids id; sort = λ c e. same_sort sort.Nodes c e }

pub element_behind : (ids : List (Option NodeId)) (id : NodeId) → IsBehind (piece.Elements ids) (piece.Node id) (piece.Elements (ids ++ Some id ∷ []))
element_behind ids id = record { trees = listed perhaps elements elements_all ids (Some id); sort = λ c e. same_sort sort.Elements c e }

pub hole_first : IsBehind piece.Empty piece.Missing (piece.Elements (None ∷ []))
hole_first = record { trees = listed perhaps elements elements_all [] None; sort = λ c e. same_sort sort.Elements c e }

pub hole_behind : (ids : List (Option NodeId)) → IsBehind (piece.Elements ids) piece.Missing (piece.Elements (ids ++ None ∷ []))
hole_behind ids = record { trees = listed perhaps elements elements_all ids None; sort = λ c e. same_sort sort.Elements c e }

pub hole_behind_nodes : (ids : List NodeId) (es : List (Option NodeId)) → elements es ≡ nodes ids → IsBehind (piece.Nodes ids) piece.Missing (piece.Elements (es ++ None ∷ []))
hole_behind_nodes ids es e = record {
  trees = λ b k t u h g. listed perhaps elements elements_all es None b k t u (subst (λ p. Holds b k p t) (sym e) h) g;
  sort = λ c s. same_sort sort.Elements c s;
}

pub word_first : (t : List ℕ) → IsBehind piece.Empty (piece.Text t) (piece.Words (t ∷ []))
word_first t = record { trees = listed word words words_all [] t; sort = λ c e. same_sort sort.Words c e }

pub word_behind : (ts : List (List ℕ)) (t : List ℕ) → IsBehind (piece.Words ts) (piece.Text t) (piece.Words (ts ++ t ∷ []))
word_behind ts t = record { trees = listed word words words_all ts t; sort = λ c e. same_sort sort.Words c e }

pub named_first : (d : Declarator) → IsBehind piece.Empty (piece.Named d) (piece.AllNamed (d ∷ []))
named_first d = record { trees = listed declarator declarators declarators_all [] d; sort = λ c e. first_more d.value c e }

pub named_behind : (ds : List Declarator) (d : Declarator) → IsBehind (piece.AllNamed ds) (piece.Named d) (piece.AllNamed (ds ++ d ∷ []))
named_behind ds d = record {
  trees = listed declarator declarators declarators_all ds d;
  sort = λ c e. subst (λ z. is_of z c ≡ true) (sym (all_more ds d)) (names_more (sort_of_all ds) (all_is ds) d.value c e);
}

pub case_first : (c : Case) → IsBehind piece.Empty (piece.Case c) (piece.Cases (c ∷ []))
case_first d = record { trees = listed clause cases cases_all [] d; sort = λ c e. same_sort sort.Cases c e }

pub case_behind : (cs : List Case) (d : Case) → IsBehind (piece.Cases cs) (piece.Case d) (piece.Cases (cs ++ d ∷ []))
case_behind cs d = record { trees = listed clause cases cases_all cs d; sort = λ c e. same_sort sort.Cases c e }

-- Pairs ---------------------------------------------------------------------------------------------

pub pair_of_name : (name : List ℕ) (id : NodeId) → IsPair (piece.Text name) (piece.Node id) (piece.Named (record { name = name; value = Some id }))
pair_of_name name id = record { trees = λ b k t u h g. (h, (g, tt)); sort = λ c e. same_sort sort.Entry c e }

pub pair_without : (name : List ℕ) → IsPair (piece.Text name) piece.Missing (piece.Named (record { name = name; value = None }))
pair_without name = record { trees = λ b k t u h g. (h, (g, tt)); sort = λ c e. same_sort sort.Declarator c e }

pub pair_of_case : (id : NodeId) (ss : List NodeId) → IsPair (piece.Node id) (piece.Nodes ss) (piece.Case (record { test = Some id; statements = ss }))
pair_of_case id ss = record { trees = λ b k t u h g. (h, (g, tt)); sort = λ c e. same_sort sort.Case c e }

pub pair_of_default : (ss : List NodeId) → IsPair piece.Missing (piece.Nodes ss) (piece.Case (record { test = None; statements = ss }))
pair_of_default ss = record { trees = λ b k t u h g. (h, (g, tt)); sort = λ c e. same_sort sort.Case c e }

pub pair_of_catch : (name : List ℕ) (ss : List NodeId) → IsPair (piece.Text name) (piece.Nodes ss) (piece.Catch (record { name = name; statements = ss }))
pair_of_catch name ss = record { trees = λ b k t u h g. (h, (g, tt)); sort = λ c e. same_sort sort.Catch c e }

-- a list without items is one of nodes
empty_pairs : (a c : Sort) → paired a sort.Empty ≡ Some c → paired a sort.Nodes ≡ Some c
empty_pairs sort.Node c e = e
empty_pairs sort.Gap c e = e
empty_pairs sort.Text c e = e
empty_pairs _ c e = cc

pub pair_of_none : (l m : Piece) (ss : List NodeId) → ss ≡ [] → IsPair l (piece.Nodes ss) m → IsPair l piece.Empty m
pair_of_none l m ss e p = record {
  trees = λ b k t u h g. p.trees b k t u h (subst (λ z. Holds b k (nodes z) u) (sym e) g);
  sort = λ c s. p.sort c (empty_pairs (sort_of l) c s);
}

-- Steps ---------------------------------------------------------------------------------------------

pub adds : (r : Result (Unit {0}) NoMemory) (l q m : Piece) (old mid new : List Piece) → old ≡ l ∷ mid → IsBehind l q m → OnOk r (new ≡ m ∷ mid) → OnOk r (Adds q old new)
adds (Ok v) l q m old mid new e b h = (l, m, mid, e, h, b)
adds (Err x) l q m old mid new e b h = tt

pub pairs : (r : Result (Unit {0}) NoMemory) (l q m : Piece) (old mid new : List Piece) → old ≡ l ∷ mid → IsPair l q m → OnOk r (new ≡ m ∷ mid) → OnOk r (Pairs q old new)
pairs (Ok v) l q m old mid new e b h = (l, m, mid, e, h, b)
pairs (Err x) l q m old mid new e b h = tt

-- what was made of two pieces, and what stays behind them
are_same : (cs : List Sort) → are_of cs cs ≡ true
are_same [] = refl
are_same (c ∷ cs) = ap (λ z. z && are_of cs cs) (itself c) ∙ are_same cs

front_is : (o : Option Sort) (cs ds : List Sort) → in_front o cs ≡ Some ds → (c : Sort) × (o ≡ Some c) × (ds ≡ c ∷ cs)
front_is None cs ds e = cc
front_is (Some c) cs ds e = (c, refl, (cc))

fronted : (o : Option Sort) (b : Sort) (cs : List Sort) → ((c : Sort) → o ≡ Some c → is_of b c ≡ true) → (ds : List Sort) → in_front o cs ≡ Some ds → are_of (b ∷ cs) ds ≡ true
fronted o b cs f ds e =
    let (c, is, all_of) = front_is o cs ds e in
    subst (λ z. are_of (b ∷ cs) z ≡ true) (sym all_of) (ap (λ z. z && are_of cs cs) (f c is) ∙ are_same cs)

pub may_add : (q : Piece) (mid old : List Piece) (ds : List Sort) → old ≡ q ∷ mid → made build.Add (sorts old) ≡ Some ds → MayAdd (sort_of q) mid
may_add q [] old ds e h = none_is (sym (ap (λ z. made build.Add (sorts z)) e) ∙ h)
  where
    none_is : {A : Type 0} {ds : List Sort} → None ≡ Some ds → A
    none_is e = cc
may_add q (l ∷ rest) old ds e h =
    let (c, is, _) = front_is (added (sort_of l) (sort_of q)) (sorts rest) ds (sym (ap (λ z. made build.Add (sorts z)) e) ∙ h) in (c, is)

pub may_pair : (q : Piece) (mid old : List Piece) (ds : List Sort) → old ≡ q ∷ mid → made (build.Group 2) (sorts old) ≡ Some ds → MayPair (sort_of q) mid
may_pair q [] old ds e h = none_is (sym (ap (λ z. made (build.Group 2) (sorts z)) e) ∙ h)
  where
    none_is : {A : Type 0} {ds : List Sort} → None ≡ Some ds → A
    none_is e = cc
may_pair q (l ∷ rest) old ds e h =
    let (c, is, _) = front_is (paired (sort_of l) (sort_of q)) (sorts rest) ds (sym (ap (λ z. made (build.Group 2) (sorts z)) e) ∙ h) in (c, is)

behind_trees : (bodies : ℕ → Tree) (kept : List Kept) (q l m : Piece) (rest : List Piece) → IsBehind l q m → (u : Sight) (vs : List Tree) → HoldsPieces bodies kept (q ∷ l ∷ rest) vs → HoldsPieces bodies kept (m ∷ rest) (built build.Add u vs)
behind_trees bodies kept q l m rest b u [] h = absurd h
behind_trees bodies kept q l m rest b u (v ∷ []) (a, h) = absurd h
behind_trees bodies kept q l m rest b u (v ∷ t ∷ vs) (a, (g, h)) = (b.trees bodies kept t v g a, h)

pair_trees : (bodies : ℕ → Tree) (kept : List Kept) (q l m : Piece) (rest : List Piece) → IsPair l q m → (u : Sight) (vs : List Tree) → HoldsPieces bodies kept (q ∷ l ∷ rest) vs → HoldsPieces bodies kept (m ∷ rest) (built (build.Group 2) u vs)
pair_trees bodies kept q l m rest b u [] h = absurd h
pair_trees bodies kept q l m rest b u (v ∷ []) (a, h) = absurd h
pair_trees bodies kept q l m rest b u (v ∷ t ∷ vs) (a, (g, h)) = (b.trees bodies kept t v g a, h)

becomes_behind : (q l m : Piece) (rest : List Piece) → IsBehind l q m → Becomes build.Add (q ∷ l ∷ rest) (m ∷ rest)
becomes_behind q l m rest b = record {
  trees = λ bodies kept u vs h. behind_trees bodies kept q l m rest b u vs h;
  sorts = λ ds e. fronted (added (sort_of l) (sort_of q)) (sort_of m) (sorts rest) b.sort ds e;
}

becomes_pair : (q l m : Piece) (rest : List Piece) → IsPair l q m → Becomes (build.Group 2) (q ∷ l ∷ rest) (m ∷ rest)
becomes_pair q l m rest b = record {
  trees = λ bodies kept u vs h. pair_trees bodies kept q l m rest b u vs h;
  sorts = λ ds e. fronted (paired (sort_of l) (sort_of q)) (sort_of m) (sorts rest) b.sort ds e;
}

pub becomes_added : (r : Result (Unit {0}) NoMemory) (q : Piece) (old mid new : List Piece) → old ≡ q ∷ mid → OnOk r (Adds q mid new) → OnOk r (Becomes build.Add old new)
becomes_added (Ok v) q old mid new e (l, m, rest, f, g, b) =
    subst (λ z. Becomes build.Add z new) (sym (e ∙ ap (λ z. q ∷ z) f)) (subst (λ z. Becomes build.Add (q ∷ l ∷ rest) z) (sym g) (becomes_behind q l m rest b))
becomes_added (Err x) q old mid new e h = tt

pub becomes_paired : (r : Result (Unit {0}) NoMemory) (q : Piece) (old mid new : List Piece) → old ≡ q ∷ mid → OnOk r (Pairs q mid new) → OnOk r (Becomes (build.Group 2) old new)
becomes_paired (Ok v) q old mid new e (l, m, rest, f, g, b) =
    subst (λ z. Becomes (build.Group 2) z new) (sym (e ∙ ap (λ z. q ∷ z) f)) (subst (λ z. Becomes (build.Group 2) (q ∷ l ∷ rest) z) (sym g) (becomes_pair q l m rest b))
becomes_paired (Err x) q old mid new e h = tt

-- there is a last piece
pub last_there : (d : Sort) (old : List Piece) → MayAdd d old → (c : Sort) × LastIs c old
last_there d [] h = absurd h
last_there d (l ∷ ls) h = (sort_of l, itself (sort_of l))

pub last_of_pair : (d : Sort) (old : List Piece) → MayPair d old → (c : Sort) × LastIs c old
last_of_pair d [] h = absurd h
last_of_pair d (l ∷ ls) h = (sort_of l, itself (sort_of l))

pub last_to_add : (old : List Piece) (ds : List Sort) → made build.Add (sorts old) ≡ Some ds → (c : Sort) × LastIs c old
last_to_add [] ds e = cc
last_to_add (q ∷ qs) ds e = (sort_of q, itself (sort_of q))

pub last_to_pair : (old : List Piece) (ds : List Sort) → made (build.Group 2) (sorts old) ≡ Some ds → (c : Sort) × LastIs c old
last_to_pair [] ds e = cc
last_to_pair (q ∷ qs) ds e = (sort_of q, itself (sort_of q))

-- the same list by an equation
pub carried : {A : Type 0} (m : A → Piece) (l q : Piece) (x y : A) → y ≡ x → IsBehind l q (m x) → IsBehind l q (m y)
carried m l q x y e b = subst (λ z. IsBehind l q (m z)) (sym e) b

-- Behind what nothing is put ------------------------------------------------------------------------

may_be : (d : Sort) (l : Piece) (mid old : List Piece) → old ≡ l ∷ mid → MayAdd d old → (c : Sort) × (added (sort_of l) d ≡ Some c)
may_be d l mid old e h = subst (MayAdd d) e h

none_some : {c : Sort} → None ≡ Some c → ⊥
none_some e = cc

-- a name is put behind names alone, and nothing else behind them
no_name : (v : Option NodeId) (d c : Sort) → added sort.Entry d ≡ None → added sort.Declarator d ≡ None → added (sort_of_value v) d ≡ Some c → ⊥
no_name None d c a b e = cc
no_name (Some id) d c a b e = cc

no_names : (ds : List Declarator) (d c : Sort) → added sort.Entries d ≡ None → added sort.Declarators d ≡ None → added (sort_of_all ds) d ≡ Some c → ⊥
no_names ds d c a b e = elim (all_is ds) [
  | inl h ↦ none_some (sym a ∙ (ap (λ z. added z d) (sym h) ∙ e))
  | inr h ↦ none_some (sym b ∙ (ap (λ z. added z d) (sym h) ∙ e))
]

node_on : (l : Piece) (c : Sort) → added (sort_of l) sort.Node ≡ Some c → (l ≡ piece.Empty → ⊥) → ((ids : List NodeId) → l ≡ piece.Nodes ids → ⊥) → ((es : List (Option NodeId)) → l ≡ piece.Elements es → ⊥) → ⊥
node_on piece.Empty c e x y z = x refl
node_on (piece.Nodes ids) c e x y z = y ids refl
node_on (piece.Elements es) c e x y z = z es refl
node_on (piece.Named d) c e x y z = no_name d.value sort.Node c refl refl e
node_on (piece.AllNamed ds) c e x y z = no_names ds sort.Node c refl refl e
node_on _ c e x y z = cc

hole_on : (l : Piece) (c : Sort) → added (sort_of l) sort.Gap ≡ Some c → (l ≡ piece.Empty → ⊥) → ((ids : List NodeId) → l ≡ piece.Nodes ids → ⊥) → ((es : List (Option NodeId)) → l ≡ piece.Elements es → ⊥) → ⊥
hole_on piece.Empty c e x y z = x refl
hole_on (piece.Nodes ids) c e x y z = y ids refl
hole_on (piece.Elements es) c e x y z = z es refl
hole_on (piece.Named d) c e x y z = no_name d.value sort.Gap c refl refl e
hole_on (piece.AllNamed ds) c e x y z = no_names ds sort.Gap c refl refl e
hole_on _ c e x y z = cc

word_on : (l : Piece) (c : Sort) → added (sort_of l) sort.Text ≡ Some c → (l ≡ piece.Empty → ⊥) → ((ts : List (List ℕ)) → l ≡ piece.Words ts → ⊥) → ⊥
word_on piece.Empty c e x y = x refl
word_on (piece.Words ts) c e x y = y ts refl
word_on (piece.Named d) c e x y = no_name d.value sort.Text c refl refl e
word_on (piece.AllNamed ds) c e x y = no_names ds sort.Text c refl refl e
word_on _ c e x y = cc

case_on : (l : Piece) (c : Sort) → added (sort_of l) sort.Case ≡ Some c → (l ≡ piece.Empty → ⊥) → ((cs : List Case) → l ≡ piece.Cases cs → ⊥) → ⊥
case_on piece.Empty c e x y = x refl
case_on (piece.Cases cs) c e x y = y cs refl
case_on (piece.Named d) c e x y = no_name d.value sort.Case c refl refl e
case_on (piece.AllNamed ds) c e x y = no_names ds sort.Case c refl refl e
case_on _ c e x y = cc

named_on : (l : Piece) (v : Option NodeId) (c : Sort) → added (sort_of l) (sort_of_value v) ≡ Some c → (l ≡ piece.Empty → ⊥) → ((ds : List Declarator) → l ≡ piece.AllNamed ds → ⊥) → ⊥
named_on piece.Empty v c e x y = x refl
named_on (piece.AllNamed ds) v c e x y = y ds refl
named_on (piece.Named d) None c e x y = no_name d.value sort.Declarator c refl refl e
named_on (piece.Named d) (Some id) c e x y = no_name d.value sort.Entry c refl refl e
named_on _ None c e x y = cc
named_on _ (Some id) c e x y = cc

pub node_onto : (l : Piece) (mid old : List Piece) → old ≡ l ∷ mid → MayAdd sort.Node old → (l ≡ piece.Empty → ⊥) → ((ids : List NodeId) → l ≡ piece.Nodes ids → ⊥) → ((es : List (Option NodeId)) → l ≡ piece.Elements es → ⊥) → ⊥
node_onto l mid old e h x y z = let (c, is) = may_be sort.Node l mid old e h in node_on l c is x y z

pub hole_onto : (l : Piece) (mid old : List Piece) → old ≡ l ∷ mid → MayAdd sort.Gap old → (l ≡ piece.Empty → ⊥) → ((ids : List NodeId) → l ≡ piece.Nodes ids → ⊥) → ((es : List (Option NodeId)) → l ≡ piece.Elements es → ⊥) → ⊥
hole_onto l mid old e h x y z = let (c, is) = may_be sort.Gap l mid old e h in hole_on l c is x y z

pub word_onto : (l : Piece) (mid old : List Piece) → old ≡ l ∷ mid → MayAdd sort.Text old → (l ≡ piece.Empty → ⊥) → ((ts : List (List ℕ)) → l ≡ piece.Words ts → ⊥) → ⊥
word_onto l mid old e h x y = let (c, is) = may_be sort.Text l mid old e h in word_on l c is x y

pub case_onto : (l : Piece) (mid old : List Piece) → old ≡ l ∷ mid → MayAdd sort.Case old → (l ≡ piece.Empty → ⊥) → ((cs : List Case) → l ≡ piece.Cases cs → ⊥) → ⊥
case_onto l mid old e h x y = let (c, is) = may_be sort.Case l mid old e h in case_on l c is x y

pub named_onto : (l : Piece) (mid old : List Piece) (v : Option NodeId) → old ≡ l ∷ mid → MayAdd (sort_of_value v) old → (l ≡ piece.Empty → ⊥) → ((ds : List Declarator) → l ≡ piece.AllNamed ds → ⊥) → ⊥
named_onto l mid old v e h x y = let (c, is) = may_be (sort_of_value v) l mid old e h in named_on l v c is x y

-- these are put behind nothing
no_empty : (a c : Sort) → added a sort.Empty ≡ Some c → ⊥
no_empty sort.Empty c e = cc
no_empty _ c e = cc

no_nodes : (a c : Sort) → added a sort.Nodes ≡ Some c → ⊥
no_nodes sort.Empty c e = cc
no_nodes _ c e = cc

no_elements : (a c : Sort) → added a sort.Elements ≡ Some c → ⊥
no_elements sort.Empty c e = cc
no_elements _ c e = cc

no_words : (a c : Sort) → added a sort.Words ≡ Some c → ⊥
no_words sort.Empty c e = cc
no_words _ c e = cc

no_entries : (a c : Sort) → added a sort.Entries ≡ Some c → ⊥
no_entries sort.Empty c e = cc
no_entries _ c e = cc

no_declarators : (a c : Sort) → added a sort.Declarators ≡ Some c → ⊥
no_declarators sort.Empty c e = cc
no_declarators _ c e = cc

no_cases : (a c : Sort) → added a sort.Cases ≡ Some c → ⊥
no_cases sort.Empty c e = cc
no_cases _ c e = cc

no_catch : (a c : Sort) → added a sort.Catch ≡ Some c → ⊥
no_catch sort.Empty c e = cc
no_catch _ c e = cc

no_body : (a c : Sort) → added a sort.Body ≡ Some c → ⊥
no_body sort.Empty c e = cc
no_body _ c e = cc

no_root : (a c : Sort) → added a sort.Root ≡ Some c → ⊥
no_root sort.Empty c e = cc
no_root _ c e = cc

put_on : (a : Sort) (q : Piece) (c : Sort) → added a (sort_of q) ≡ Some c → ((id : NodeId) → q ≡ piece.Node id → ⊥) → (q ≡ piece.Missing → ⊥) → ((t : List ℕ) → q ≡ piece.Text t → ⊥) → ((d : Declarator) → q ≡ piece.Named d → ⊥) → ((d : Case) → q ≡ piece.Case d → ⊥) → ⊥
put_on a (piece.Node id) c e v w x y z = v id refl
put_on a piece.Missing c e v w x y z = w refl
put_on a (piece.Text t) c e v w x y z = x t refl
put_on a (piece.Named d) c e v w x y z = y d refl
put_on a (piece.Case d) c e v w x y z = z d refl
put_on a piece.Empty c e v w x y z = no_empty a c e
put_on a (piece.Nodes ids) c e v w x y z = no_nodes a c e
put_on a (piece.Elements es) c e v w x y z = no_elements a c e
put_on a (piece.Words ts) c e v w x y z = no_words a c e
put_on a (piece.AllNamed ds) c e v w x y z = elim (all_is ds) [
  | inl h ↦ no_entries a c (ap (added a) (sym h) ∙ e)
  | inr h ↦ no_declarators a c (ap (added a) (sym h) ∙ e)
]
put_on a (piece.Cases ds) c e v w x y z = no_cases a c e
put_on a (piece.Catch d) c e v w x y z = no_catch a c e
put_on a (piece.Body b) c e v w x y z = no_body a c e
put_on a (piece.Whole b) c e v w x y z = no_root a c e

pub to_add : (q : Piece) (old : List Piece) → MayAdd (sort_of q) old → ((id : NodeId) → q ≡ piece.Node id → ⊥) → (q ≡ piece.Missing → ⊥) → ((t : List ℕ) → q ≡ piece.Text t → ⊥) → ((d : Declarator) → q ≡ piece.Named d → ⊥) → ((d : Case) → q ≡ piece.Case d → ⊥) → ⊥
to_add q [] h v w x y z = absurd h
to_add q (l ∷ ls) (c, e) v w x y z = put_on (sort_of l) q c e v w x y z

-- What pairs are made of ----------------------------------------------------------------------------

text_of_node : (a c : Sort) → paired a sort.Node ≡ Some c → is_of a sort.Text ≡ true
text_of_node sort.Text c e = refl
text_of_node _ c e = cc

text_of_gap : (a c : Sort) → paired a sort.Gap ≡ Some c → is_of a sort.Text ≡ true
text_of_gap sort.Text c e = refl
text_of_gap _ c e = cc

pub name_of_node : (old : List Piece) → MayPair sort.Node old → LastIs sort.Text old
name_of_node [] h = absurd h
name_of_node (l ∷ ls) (c, e) = text_of_node (sort_of l) c e

pub name_of_gap : (old : List Piece) → MayPair sort.Gap old → LastIs sort.Text old
name_of_gap [] h = absurd h
name_of_gap (l ∷ ls) (c, e) = text_of_gap (sort_of l) c e

pub empty_of_pair : (old : List Piece) → MayPair sort.Empty old → MayPair sort.Nodes old
empty_of_pair [] h = absurd h
empty_of_pair (l ∷ ls) (c, e) = (c, empty_pairs (sort_of l) c e)

pub names_pair : (r : Result (Unit {0}) NoMemory) (q : Piece) (value : Option NodeId) (old new : List Piece) → ((name : List ℕ) → IsPair (piece.Text name) q (piece.Named (record { name = name; value = value }))) → OnOk r (Names value old new) → OnOk r (Pairs q old new)
names_pair (Ok v) q value old new f (name, rest, e, h) = (piece.Text name, piece.Named (record { name = name; value = value }), rest, e, h, f name)
names_pair (Err x) q value old new f h = tt

pub pairs_none : (r : Result (Unit {0}) NoMemory) (ss : List NodeId) (old new : List Piece) → ss ≡ [] → OnOk r (Pairs (piece.Nodes ss) old new) → OnOk r (Pairs piece.Empty old new)
pairs_none (Ok v) ss old new e (l, m, rest, g, h, p) = (l, m, rest, g, h, pair_of_none l m ss e p)
pairs_none (Err x) ss old new e h = tt

-- nothing else is the last of a pair
no_text_last : (a c : Sort) → paired a sort.Text ≡ Some c → ⊥
no_text_last sort.Empty c e = cc
no_text_last _ c e = cc

no_elements_last : (a c : Sort) → paired a sort.Elements ≡ Some c → ⊥
no_elements_last sort.Empty c e = cc
no_elements_last _ c e = cc

no_words_last : (a c : Sort) → paired a sort.Words ≡ Some c → ⊥
no_words_last sort.Empty c e = cc
no_words_last _ c e = cc

no_entry_last : (a c : Sort) → paired a sort.Entry ≡ Some c → ⊥
no_entry_last sort.Empty c e = cc
no_entry_last _ c e = cc

no_declarator_last : (a c : Sort) → paired a sort.Declarator ≡ Some c → ⊥
no_declarator_last sort.Empty c e = cc
no_declarator_last _ c e = cc

no_entries_last : (a c : Sort) → paired a sort.Entries ≡ Some c → ⊥
no_entries_last sort.Empty c e = cc
no_entries_last _ c e = cc

no_declarators_last : (a c : Sort) → paired a sort.Declarators ≡ Some c → ⊥
no_declarators_last sort.Empty c e = cc
no_declarators_last _ c e = cc

no_case_last : (a c : Sort) → paired a sort.Case ≡ Some c → ⊥
no_case_last sort.Empty c e = cc
no_case_last _ c e = cc

no_cases_last : (a c : Sort) → paired a sort.Cases ≡ Some c → ⊥
no_cases_last sort.Empty c e = cc
no_cases_last _ c e = cc

no_catch_last : (a c : Sort) → paired a sort.Catch ≡ Some c → ⊥
no_catch_last sort.Empty c e = cc
no_catch_last _ c e = cc

no_body_last : (a c : Sort) → paired a sort.Body ≡ Some c → ⊥
no_body_last sort.Empty c e = cc
no_body_last _ c e = cc

no_root_last : (a c : Sort) → paired a sort.Root ≡ Some c → ⊥
no_root_last sort.Empty c e = cc
no_root_last _ c e = cc

named_last : (v : Option NodeId) (a c : Sort) → paired a (sort_of_value v) ≡ Some c → ⊥
named_last None a c e = no_declarator_last a c e
named_last (Some id) a c e = no_entry_last a c e

last_of : (a : Sort) (q : Piece) (c : Sort) → paired a (sort_of q) ≡ Some c → ((id : NodeId) → q ≡ piece.Node id → ⊥) → (q ≡ piece.Missing → ⊥) → (q ≡ piece.Empty → ⊥) → ((ids : List NodeId) → q ≡ piece.Nodes ids → ⊥) → ⊥
last_of a (piece.Node id) c e w x y z = w id refl
last_of a piece.Missing c e w x y z = x refl
last_of a piece.Empty c e w x y z = y refl
last_of a (piece.Nodes ids) c e w x y z = z ids refl
last_of a (piece.Text t) c e w x y z = no_text_last a c e
last_of a (piece.Elements es) c e w x y z = no_elements_last a c e
last_of a (piece.Words ts) c e w x y z = no_words_last a c e
last_of a (piece.Named d) c e w x y z = named_last d.value a c e
last_of a (piece.AllNamed ds) c e w x y z = elim (all_is ds) [
  | inl h ↦ no_entries_last a c (ap (paired a) (sym h) ∙ e)
  | inr h ↦ no_declarators_last a c (ap (paired a) (sym h) ∙ e)
]
last_of a (piece.Case d) c e w x y z = no_case_last a c e
last_of a (piece.Cases ds) c e w x y z = no_cases_last a c e
last_of a (piece.Catch d) c e w x y z = no_catch_last a c e
last_of a (piece.Body b) c e w x y z = no_body_last a c e
last_of a (piece.Whole b) c e w x y z = no_root_last a c e

pub to_pair : (q : Piece) (old : List Piece) → MayPair (sort_of q) old → ((id : NodeId) → q ≡ piece.Node id → ⊥) → (q ≡ piece.Missing → ⊥) → (q ≡ piece.Empty → ⊥) → ((ids : List NodeId) → q ≡ piece.Nodes ids → ⊥) → ⊥
to_pair q [] h w x y z = absurd h
to_pair q (l ∷ ls) (c, e) w x y z = last_of (sort_of l) q c e w x y z

-- nor is anything else before statements
no_pair_before : (v : Option NodeId) (c : Sort) → paired (sort_of_value v) sort.Nodes ≡ Some c → ⊥
no_pair_before None c e = cc
no_pair_before (Some id) c e = cc

before_nodes : (l : Piece) (c : Sort) → paired (sort_of l) sort.Nodes ≡ Some c → ((id : NodeId) → l ≡ piece.Node id → ⊥) → (l ≡ piece.Missing → ⊥) → ((t : List ℕ) → l ≡ piece.Text t → ⊥) → ⊥
before_nodes (piece.Node id) c e x y z = x id refl
before_nodes piece.Missing c e x y z = y refl
before_nodes (piece.Text t) c e x y z = z t refl
before_nodes (piece.Named d) c e x y z = no_pair_before d.value c e
before_nodes (piece.AllNamed ds) c e x y z = elim (all_is ds) [
  | inl h ↦ none_some (ap (λ z. paired z sort.Nodes) (sym h) ∙ e)
  | inr h ↦ none_some (ap (λ z. paired z sort.Nodes) (sym h) ∙ e)
]
before_nodes _ c e x y z = cc

pub before_statements : (l : Piece) (mid old : List Piece) → old ≡ l ∷ mid → MayPair sort.Nodes old → ((id : NodeId) → l ≡ piece.Node id → ⊥) → (l ≡ piece.Missing → ⊥) → ((t : List ℕ) → l ≡ piece.Text t → ⊥) → ⊥
before_statements l mid old e h x y z = let (c, is) = pair_at l mid old e h in before_nodes l c is x y z
  where
    pair_at : (l : Piece) (mid old : List Piece) → old ≡ l ∷ mid → MayPair sort.Nodes old → (c : Sort) × (paired (sort_of l) sort.Nodes ≡ Some c)
    pair_at l mid old e h = subst (MayPair sort.Nodes) e h
