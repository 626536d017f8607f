-- Lists of what was read, taken over item by item.
use Rattle.std.proofs.Common.{◌≡◌, ℕ, zero, suc, ◌+◌, ◌<◌, List, [], ◌∷◌, ◌++◌, length, take, get_or, Option, Some, refl, sym, ◌∙◌, ap, arith}
use Rattle.std.proofs.lemmas.List.{take_more}
use Rattle.js_tree.specs.declared.node.NodeId.{NodeId}
use Rattle.js_tree.specs.declared.node.Declarator.{Declarator}
use Rattle.js_tree.specs.declared.node.Entry.{Entry}
use Rattle.js_tree.specs.Trees.{Part, at, perhaps, nodes, elements, entries, declarators, two}
use Rattle.js_pieces.specs.Pieces.{AreNamed}
use Rattle.js_pieces.proofs.Behind.{all, declarator, nodes_all, elements_all, declarators_all}

-- a list of parts with one more
snoc : Part → Part → Part
snoc (Part.Cons p q) r = Part.Cons p (snoc q r)
snoc _ r = Part.Cons r Part.Nil

all_snoc : {A : Type 0} (f : A → Part) (xs : List A) (x : A) → all f (xs ++ x ∷ []) ≡ snoc (all f xs) (f x)
unfolding snoc
all_snoc f [] x = refl
all_snoc f (y ∷ xs) x = ap (Part.Cons (f y)) (all_snoc f xs x)

entry : Entry → Part
entry e = two (Part.Word e.key) (at e.value)

entries_all : (es : List Entry) → entries es ≡ all entry es
unfolding entry
entries_all [] = refl
entries_all (e ∷ es) = ap (Part.Cons (entry e)) (entries_all es)

snoc_by : {A : Type 0} (f : A → Part) (list : List A → Part) → ((xs : List A) → list xs ≡ all f xs) → (xs : List A) (x : A) → list (xs ++ x ∷ []) ≡ snoc (list xs) (f x)
snoc_by f list e xs x = e (xs ++ x ∷ []) ∙ all_snoc f xs x ∙ ap (λ z. snoc z (f x)) (sym (e xs))

-- one of the nodes more is an element
pub element_step : (es : List (Option NodeId)) (ids : List NodeId) (i : ℕ) (id d : NodeId) → elements es ≡ nodes (take i ids) → i < length ids → id ≡ get_or ids i d →
    elements (es ++ Some id ∷ []) ≡ nodes (take (i + 1) ids)
element_step es ids i id d h l is =
    snoc_by perhaps elements elements_all es (Some id) ∙ ap (λ z. snoc z (at id)) h ∙
    sym (snoc_by at nodes nodes_all (take i ids) id) ∙ ap nodes (ap (λ z. take i ids ++ z ∷ []) is ∙ sym (take_more ids i d l))

-- one of the names with its value more is an entry
pub entry_step : (es : List Entry) (ds : List Declarator) (i : ℕ) (e : Entry) (d x : Declarator) → entries es ≡ declarators (take i ds) → i < length ds → d ≡ get_or ds i x → e.key ≡ d.name → d.value ≡ Some e.value →
    entries (es ++ e ∷ []) ≡ declarators (take (i + 1) ds)
unfolding entry
entry_step es ds i e d x h l is key value =
    snoc_by entry entries entries_all es e ∙ ap (λ z. snoc z (entry e)) h ∙
    ap (snoc (declarators (take i ds))) (ap (λ k. two (Part.Word k) (at e.value)) key ∙ ap (λ v. two (Part.Word d.name) (perhaps v)) (sym value)) ∙
    sym (snoc_by declarator declarators declarators_all (take i ds) d) ∙ ap declarators (ap (λ z. take i ds ++ z ∷ []) is ∙ sym (take_more ds i x l))

pub named_at : (ds : List Declarator) (i : ℕ) (x : Declarator) → AreNamed ds → i < length ds → (id : NodeId) × ((get_or ds i x).value ≡ Some id)
named_at [] i x h l = absurd (omega arith)
named_at (d ∷ ds) zero x h l = h.0
named_at (d ∷ ds) (suc i) x h l = named_at ds i x h.1 (omega arith)
