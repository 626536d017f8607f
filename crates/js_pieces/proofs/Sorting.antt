-- Which pieces are of a sort.
use Rattle.std.proofs.Common.{◌≡◌, ◌⊎◌, inl, inr, ℕ, Bool, true, false, List, [], ◌∷◌, ◌++◌, length, reverse, Option, Some, None, Result, Ok, Err, IfOk, refl, sym, ◌∙◌, ap, subst}
use Rattle.std.proofs.lemmas.List.{reverse-append}
use Rattle.mug_text.specs.declared.memory.NoMemory.{NoMemory}
use Rattle.js_tree.specs.declared.node.NodeId.{NodeId}
use Rattle.js_tree.specs.declared.node.Declarator.{Declarator}
use Rattle.js_tree.specs.declared.node.Case.{Case}
use Rattle.js_tree.specs.declared.node.Catch.{Catch}
use Rattle.js_tree.specs.Trees.{Part}
use Rattle.js_grammar.specs.inner.Sorts.{Sort, is_of}
use Rattle.js_grammar.specs.inner.Sorts as sort
use Rattle.js_pieces.specs.declared.pieces.Piece.{Piece}
use Rattle.js_pieces.specs.declared.pieces.Piece.TheVariants as piece
use Rattle.js_pieces.specs.declared.pieces.ReadBody.{ReadBody}
use Rattle.js_pieces.specs.declared.pieces.WholeText.{WholeText}
use Rattle.js_pieces.specs.Pieces.{AreNamed, IsPart, LastIs, Takes, joined, sort_of, sort_of_value, sort_of_all, last}

clash : {b : Bool} → b ≡ false → b ≡ true → ⊥
clash f t = cc

-- a name with its value is of two sorts at most
no_pair : (v : Option NodeId) (c : Sort) → is_of sort.Entry c ≡ false → is_of sort.Declarator c ≡ false → is_of (sort_of_value v) c ≡ true → ⊥
no_pair None c a b e = clash b e
no_pair (Some id) c a b e = clash a e

joined_is : (a b : Sort) → (joined a b ≡ sort.Entries) ⊎ (joined a b ≡ sort.Declarators)
joined_is sort.Entry sort.Entries = inl refl
joined_is _ _ = inr refl

pub all_is : (ds : List Declarator) → (sort_of_all ds ≡ sort.Entries) ⊎ (sort_of_all ds ≡ sort.Declarators)
all_is [] = inl refl
all_is (d ∷ ds) = joined_is (sort_of_value d.value) (sort_of_all ds)

-- so is a list of them
no_pairs : (ds : List Declarator) (c : Sort) → is_of sort.Entries c ≡ false → is_of sort.Declarators c ≡ false → is_of (sort_of_all ds) c ≡ true → ⊥
no_pairs ds c a b e = elim (all_is ds) [
  | inl h ↦ clash a (sym (ap (λ z. is_of z c) h) ∙ e)
  | inr h ↦ clash b (sym (ap (λ z. is_of z c) h) ∙ e)
]

pub node_is : (p : Piece) → is_of (sort_of p) sort.Node ≡ true → ((id : NodeId) → p ≡ piece.Node id → ⊥) → ⊥
node_is (piece.Node id) e n = n id refl
node_is (piece.Named d) e n = no_pair d.value sort.Node refl refl e
node_is (piece.AllNamed ds) e n = no_pairs ds sort.Node refl refl e
node_is _ e n = cc

-- a list of names with their values has only names with a value, where it is one of properties
joined_both : (a b : Sort) → is_of (joined a b) sort.Entries ≡ true → (a ≡ sort.Entry) × (b ≡ sort.Entries)
joined_both sort.Entry sort.Entries e = (refl, refl)
joined_both _ _ e = cc

valued : (v : Option NodeId) → sort_of_value v ≡ sort.Entry → (id : NodeId) × (v ≡ Some id)
valued None e = cc
valued (Some id) e = (id, refl)

pub are_named : (ds : List Declarator) → is_of (sort_of_all ds) sort.Entries ≡ true → AreNamed ds
are_named [] e = tt
are_named (d ∷ ds) e =
    let both = joined_both (sort_of_value d.value) (sort_of_all ds) e in
    (valued d.value both.0, are_named ds (ap (λ z. is_of z sort.Entries) both.1))

pub text_is : (p : Piece) → is_of (sort_of p) sort.Text ≡ true → ((t : List ℕ) → p ≡ piece.Text t → ⊥) → ⊥
text_is (piece.Text t) e n = n t refl
text_is (piece.Named d) e n = no_pair d.value sort.Text refl refl e
text_is (piece.AllNamed ds) e n = no_pairs ds sort.Text refl refl e
text_is _ e n = cc

pub maybe_node_is : (p : Piece) → is_of (sort_of p) sort.Maybe_node ≡ true → ((id : NodeId) → p ≡ piece.Node id → ⊥) → (p ≡ piece.Missing → ⊥) → ⊥
maybe_node_is (piece.Node id) e n m = n id refl
maybe_node_is piece.Missing e n m = m refl
maybe_node_is (piece.Named d) e n m = no_pair d.value sort.Maybe_node refl refl e
maybe_node_is (piece.AllNamed ds) e n m = no_pairs ds sort.Maybe_node refl refl e
maybe_node_is _ e n m = cc

pub maybe_text_is : (p : Piece) → is_of (sort_of p) sort.Maybe_text ≡ true → ((t : List ℕ) → p ≡ piece.Text t → ⊥) → (p ≡ piece.Missing → ⊥) → ⊥
maybe_text_is (piece.Text t) e n m = n t refl
maybe_text_is piece.Missing e n m = m refl
maybe_text_is (piece.Named d) e n m = no_pair d.value sort.Maybe_text refl refl e
maybe_text_is (piece.AllNamed ds) e n m = no_pairs ds sort.Maybe_text refl refl e
maybe_text_is _ e n m = cc

pub nodes_is : (p : Piece) → is_of (sort_of p) sort.Nodes ≡ true → (p ≡ piece.Empty → ⊥) → ((ids : List NodeId) → p ≡ piece.Nodes ids → ⊥) → ⊥
nodes_is piece.Empty e n m = n refl
nodes_is (piece.Nodes ids) e n m = m ids refl
nodes_is (piece.Named d) e n m = no_pair d.value sort.Nodes refl refl e
nodes_is (piece.AllNamed ds) e n m = no_pairs ds sort.Nodes refl refl e
nodes_is _ e n m = cc

pub maybe_nodes_is : (p : Piece) → is_of (sort_of p) sort.Maybe_nodes ≡ true → (p ≡ piece.Missing → ⊥) → (p ≡ piece.Empty → ⊥) → ((ids : List NodeId) → p ≡ piece.Nodes ids → ⊥) → ⊥
maybe_nodes_is piece.Missing e l n m = l refl
maybe_nodes_is piece.Empty e l n m = n refl
maybe_nodes_is (piece.Nodes ids) e l n m = m ids refl
maybe_nodes_is (piece.Named d) e l n m = no_pair d.value sort.Maybe_nodes refl refl e
maybe_nodes_is (piece.AllNamed ds) e l n m = no_pairs ds sort.Maybe_nodes refl refl e
maybe_nodes_is _ e l n m = cc

pub elements_is : (p : Piece) → is_of (sort_of p) sort.Elements ≡ true → (p ≡ piece.Empty → ⊥) → ((ids : List NodeId) → p ≡ piece.Nodes ids → ⊥) → ((es : List (Option NodeId)) → p ≡ piece.Elements es → ⊥) → ⊥
elements_is piece.Empty e l n m = l refl
elements_is (piece.Nodes ids) e l n m = n ids refl
elements_is (piece.Elements es) e l n m = m es refl
elements_is (piece.Named d) e l n m = no_pair d.value sort.Elements refl refl e
elements_is (piece.AllNamed ds) e l n m = no_pairs ds sort.Elements refl refl e
elements_is _ e l n m = cc

pub words_is : (p : Piece) → is_of (sort_of p) sort.Words ≡ true → (p ≡ piece.Empty → ⊥) → ((ts : List (List ℕ)) → p ≡ piece.Words ts → ⊥) → ⊥
words_is piece.Empty e n m = n refl
words_is (piece.Words ts) e n m = m ts refl
words_is (piece.Named d) e n m = no_pair d.value sort.Words refl refl e
words_is (piece.AllNamed ds) e n m = no_pairs ds sort.Words refl refl e
words_is _ e n m = cc

pub declarators_is : (p : Piece) → is_of (sort_of p) sort.Declarators ≡ true → (p ≡ piece.Empty → ⊥) → ((ds : List Declarator) → p ≡ piece.AllNamed ds → ⊥) → ⊥
declarators_is piece.Empty e n m = n refl
declarators_is (piece.AllNamed ds) e n m = m ds refl
declarators_is (piece.Named d) e n m = no_pair d.value sort.Declarators refl refl e
declarators_is _ e n m = cc

pub entries_is : (p : Piece) → is_of (sort_of p) sort.Entries ≡ true → (p ≡ piece.Empty → ⊥) → ((ds : List Declarator) → p ≡ piece.AllNamed ds → ⊥) → ⊥
entries_is piece.Empty e n m = n refl
entries_is (piece.AllNamed ds) e n m = m ds refl
entries_is (piece.Named d) e n m = no_pair d.value sort.Entries refl refl e
entries_is _ e n m = cc

pub cases_is : (p : Piece) → is_of (sort_of p) sort.Cases ≡ true → (p ≡ piece.Empty → ⊥) → ((cs : List Case) → p ≡ piece.Cases cs → ⊥) → ⊥
cases_is piece.Empty e n m = n refl
cases_is (piece.Cases cs) e n m = m cs refl
cases_is (piece.Named d) e n m = no_pair d.value sort.Cases refl refl e
cases_is (piece.AllNamed ds) e n m = no_pairs ds sort.Cases refl refl e
cases_is _ e n m = cc

pub maybe_catch_is : (p : Piece) → is_of (sort_of p) sort.Maybe_catch ≡ true → ((x : Catch) → p ≡ piece.Catch x → ⊥) → (p ≡ piece.Missing → ⊥) → ⊥
maybe_catch_is (piece.Catch x) e n m = n x refl
maybe_catch_is piece.Missing e n m = m refl
maybe_catch_is (piece.Named d) e n m = no_pair d.value sort.Maybe_catch refl refl e
maybe_catch_is (piece.AllNamed ds) e n m = no_pairs ds sort.Maybe_catch refl refl e
maybe_catch_is _ e n m = cc

pub body_is : (p : Piece) → is_of (sort_of p) sort.Body ≡ true → ((b : ReadBody) → p ≡ piece.Body b → ⊥) → ⊥
body_is (piece.Body b) e n = n b refl
body_is (piece.Named d) e n = no_pair d.value sort.Body refl refl e
body_is (piece.AllNamed ds) e n = no_pairs ds sort.Body refl refl e
body_is _ e n = cc

pub whole_is : (p : Piece) → is_of (sort_of p) sort.Root ≡ true → ((w : WholeText) → p ≡ piece.Whole w → ⊥) → ⊥
whole_is (piece.Whole w) e n = n w refl
whole_is (piece.Named d) e n = no_pair d.value sort.Root refl refl e
whole_is (piece.AllNamed ds) e n = no_pairs ds sort.Root refl refl e
whole_is _ e n = cc

-- What is taken off -------------------------------------------------------------------------------

pub last_is : (d : Sort) (old new : List Piece) (p : Piece) → LastIs d old → old ≡ p ∷ new → is_of (sort_of p) d ≡ true
last_is d old new p h e = subst (λ z. LastIs d z) e h

pub takes : (q p : Piece) (part : Part) (old new : List Piece) → old ≡ p ∷ new → p ≡ q → IsPart q part → Takes old new part
takes q p part old new e is h = (q, e ∙ ap (λ z. z ∷ new) is, h)

pub takes_if : {A : Type 0} (r : Result A NoMemory) (P : A → Type 0) (part : A → Part) (q p : Piece) (old new : List Piece) → old ≡ p ∷ new → p ≡ q → ((x : A) → P x → IsPart q (part x)) → IfOk r P → IfOk r (λ x. Takes old new (part x))
takes_if (Ok x) P part q p old new e is f h = takes q p (part x) old new e is (f x h)
takes_if (Err x) P part q p old new e is f h = tt

-- the same of a value that is known by an equation
pub takes_as : {A : Type 0} (part : A → Part) (r x : A) (q p : Piece) (old new : List Piece) → r ≡ x → old ≡ p ∷ new → p ≡ q → IsPart q (part x) → Takes old new (part r)
takes_as part r x q p old new same e is h = subst (λ z. Takes old new (part z)) (sym same) (takes q p (part x) old new e is h)

pub if_as : {A : Type 0} (r s : Result A NoMemory) (P : A → Type 0) → r ≡ s → IfOk s P → IfOk r P
if_as r s P e h = subst (λ z. IfOk z P) (sym e) h

-- the last piece of those that stand the other way round
pub last_there : (all items front : List Piece) (p : Piece) → reverse items ≡ all → items ≡ front ++ p ∷ [] → last all ≡ Some p
last_there all items front p view e = sym (ap last view) ∙ ap (λ z. last (reverse z)) e ∙ ap last (reverse-append front (p ∷ []))

pub none_there : (all items : List Piece) → reverse items ≡ all → length items ≡ 0 → last all ≡ None
none_there all [] view e = sym (ap last view)
none_there all (q ∷ qs) view e = cc
