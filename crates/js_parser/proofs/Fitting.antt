-- What is still to be read leads from trees that fit to a whole text that does.
use Rattle.std.proofs.Common.{◌≡◌, ℕ, true, List, [], ◌∷◌, refl, sym, subst}
use Rattle.std.proofs.lemmas.Bool.{and_from, and_parts}
use Rattle.js_tree.specs.declared.production.Production.{Production}
use Rattle.js_tree.specs.Trees.{Tree, Made, Word, Missing, Nil, Cons}
use Rattle.js_tree.specs.Runs.{Around, inside, labels_before, fits, all_fit, is_runnable}
use Rattle.js_tree.specs.Runs.{is_body, is_for_target}
use Rattle.js_grammar.specs.declared.sight.Sight.{Sight}
use Rattle.js_grammar.specs.declared.symbol.Nonterminal.{Nonterminal}
use Rattle.js_grammar.specs.declared.symbol.Nonterminal.TheVariants as n
use Rattle.js_grammar.specs.declared.symbol.Open.TheVariants as open_part
use Rattle.js_grammar.specs.declared.symbol.Symbol.{Symbol}
use Rattle.js_grammar.specs.declared.symbol.Symbol.TheVariants.{Word as T, End, Semicolon, FreeSemicolon, Never, Part, Build as Makes, Leave}
use Rattle.js_grammar.specs.Derivations.{behind, built}
use Rattle.js_grammar.specs.Parts.{in_function}
use Rattle.js_parser.proofs.Around.{around, front}

-- a tree that fits here, behind these labels
abbrev pub Fits : Around → List (List ℕ) → Tree → Type 0
Fits a f t = all_fit a f t ≡ true

-- a tree that fits anywhere
abbrev pub IsFree : Tree → Type 0
IsFree t = (a : Around) (f : List (List ℕ)) → Fits a f t

-- a tree that fits where this is to be read next, behind no label, or behind any
abbrev pub FitsIn : List Symbol → Tree → Type 0
FitsIn s t = Fits (around s) [] t

abbrev pub FitsAlways : List Symbol → Tree → Type 0
FitsAlways s t = (f : List (List ℕ)) → Fits (around s) f t

-- a statement that ends where this is to be read next
abbrev pub FitsAt : List Symbol → Tree → Type 0
FitsAt s t = Fits (around s) (front s) t

-- a loop, within which this is to be read next
abbrev pub FitsAround : List Symbol → Tree → Type 0
FitsAround s t = (rest : List Symbol) → s ≡ Leave open_part.Loop ∷ rest → FitsAt rest t

-- a text
abbrev pub IsWord : Tree → Type 0
IsWord t = (u : List ℕ) × (t ≡ Word u)

-- the tree that a part leaves, where this is to be read behind it
abbrev pub Gives : Nonterminal → List Symbol → Tree → Type 0
Gives n.Statement s t = FitsAt s t
Gives n.Statements s t = FitsIn s t
Gives n.Sources s t = FitsIn s t
Gives n.Braced s t = FitsIn s t
Gives (n.Cases _) s t = FitsIn s t
Gives (n.Else _) s t = front s ≡ [] → FitsAlways s t
Gives (n.Handlers _) s t = FitsAlways s t
Gives (n.Finally _) s t = FitsAlways s t
Gives (n.ContinueTo _) s t = FitsAlways s t
Gives (n.BreakTo _) s t = FitsAlways s t
Gives (n.Returned _) s t = (in_function s ≡ true) → FitsAlways s t
Gives (n.ForHead _) s t = FitsAround s t
Gives (n.ForVar _ _) s t = FitsAround s t
Gives (n.ForObject _) s t = FitsAround s t
Gives (n.ForStart _) s t = FitsAround s t
Gives n.Name s t = IsWord t
Gives n.Body s t = IsFree t × (is_body t ≡ true)
Gives _ s t = IsFree t

-- the last tree, or the last two, as a part takes them
abbrev pub One : (Tree → Type 0) → (List Tree → Type 0) → List Tree → Type 0
One N K [] = ⊥
One N K (v ∷ vs) = N v × K vs

abbrev pub Two : (Tree → Type 0) → (Tree → Type 0) → (List Tree → Type 0) → List Tree → Type 0
Two N M K [] = ⊥
Two N M K (v ∷ []) = ⊥
Two N M K (v ∷ w ∷ vs) = N v × M w × K vs

abbrev pub Takes : Nonterminal → List Symbol → (List Tree → Type 0) → List Tree → Type 0
Takes (n.Commas _ _) s K vs = One IsFree K vs
Takes (n.Assigned _ _) s K vs = One IsFree K vs
Takes (n.Choice _ _) s K vs = One IsFree K vs
Takes (n.Operators _ _ _) s K vs = One IsFree K vs
Takes (n.Postfix _) s K vs = One IsFree K vs
Takes (n.Prefixed _ _) s K vs = One IsFree K vs
Takes (n.Operated _ _) s K vs = One IsFree K vs
Takes (n.Tail _) s K vs = One IsFree K vs
Takes (n.MemberTail _) s K vs = One IsFree K vs
Takes (n.Key _) s K vs = One IsFree K vs
Takes (n.Given _) s K vs = One IsFree K vs
Takes n.FirstArgument s K vs = One IsFree K vs
Takes n.MoreArguments s K vs = One IsFree K vs
Takes n.Elements s K vs = One IsFree K vs
Takes n.MoreElements s K vs = One IsFree K vs
Takes n.Entries s K vs = One IsFree K vs
Takes n.MoreEntries s K vs = One IsFree K vs
Takes n.Parameters s K vs = One IsFree K vs
Takes n.MoreParameters s K vs = One IsFree K vs
Takes (n.Declarator _) s K vs = One IsFree K vs
Takes (n.MoreDeclarators _) s K vs = One IsFree K vs
Takes (n.ForStart _) s K vs = One IsFree K vs
Takes n.Sources s K vs = One (FitsIn s) K vs
Takes n.Statements s K vs = One (FitsIn s) K vs
Takes (n.Cases _) s K vs = One (FitsIn s) K vs
Takes (n.Handlers _) s K vs = One (FitsIn s) K vs
Takes (n.ForObject _) s K vs = One (λ t. IsFree t × (is_for_target t ≡ true)) K vs
Takes (n.Else _) s K vs = Two (FitsIn s) IsFree K vs
Takes (n.Finally _) s K vs = Two (FitsIn s) (FitsIn s) K vs
Takes n.Accessed s K vs = Unit {0}
Takes n.ForTarget s K vs = ⊥
Takes _ s K vs = K vs

-- the only tree of a text
abbrev pub IsDone : List Symbol → List Tree → Type 0
IsDone [] (t ∷ []) = is_runnable t ≡ true
IsDone _ _ = Unit {0}

abbrev pub Leads : List Symbol → List Tree → Type 0
Leads [] vs = Unit {0}
Leads (T v ∷ s) vs = Leads s vs
Leads (End ∷ s) vs = IsDone s vs
Leads (Semicolon ∷ s) vs = Leads s vs
Leads (FreeSemicolon ∷ s) vs = Leads s vs
Leads (Never ∷ s) vs = Unit {0}
Leads (Part x ∷ s) vs = Takes x s (λ us. (t : Tree) → Gives x s t → Leads s (t ∷ us)) vs
Leads (Makes b ∷ s) vs = (u : Sight) → Leads s (built b u vs)
Leads (Leave o ∷ s) vs = Leads s vs

-- Trees that fit ----------------------------------------------------------------------------------

pub fits_made : (a : Around) (f : List (List ℕ)) (q : Production) (from to : ℕ) (ts : Tree) →
    fits a q ts ≡ true → Fits (inside q ts f a) (labels_before q ts f) ts →
    Fits a f (Made q from to ts)
fits_made a f q from to ts e h =
    and_from (fits a q ts) (all_fit (inside q ts f a) (labels_before q ts f) ts) e h

pub fits_one : (a : Around) (f : List (List ℕ)) (t : Tree) → Fits a f t → Fits a f (Cons t Nil)
fits_one a f t h = and_from (all_fit a f t) true h refl

pub fits_two : (a : Around) (f : List (List ℕ)) (t v : Tree) → Fits a f t → Fits a f v →
    Fits a f (Cons t (Cons v Nil))
fits_two a f t v h g =
    and_from (all_fit a f t) (all_fit a f (Cons v Nil)) h (fits_one a f v g)

pub fits_three : (a : Around) (f : List (List ℕ)) (t v w : Tree) → Fits a f t → Fits a f v →
    Fits a f w → Fits a f (Cons t (Cons v (Cons w Nil)))
fits_three a f t v w h g k =
    and_from (all_fit a f t) (all_fit a f (Cons v (Cons w Nil))) h (fits_two a f v w g k)

-- one more behind a list
pub fits_behind : (a : Around) (f : List (List ℕ)) (ts v : Tree) → Fits a f ts → Fits a f v →
    Fits a f (behind ts v)
fits_behind a f (Cons t ts) v h g =
    let both = and_parts (all_fit a f t) (all_fit a f ts) h in
    and_from (all_fit a f t) (all_fit a f (behind ts v)) both.0 (fits_behind a f ts v both.1 g)
fits_behind a f (Made q from to ts) v h g = fits_one a f v g
fits_behind a f (Word u) v h g = fits_one a f v g
fits_behind a f Missing v h g = fits_one a f v g
fits_behind a f Nil v h g = fits_one a f v g

pub free_made : (q : Production) (from to : ℕ) (ts : Tree) → ((a : Around) → fits a q ts ≡ true) →
    IsFree ts → IsFree (Made q from to ts)
free_made q from to ts e h a f =
    fits_made a f q from to ts (e a) (h (inside q ts f a) (labels_before q ts f))

pub free_one : (t : Tree) → IsFree t → IsFree (Cons t Nil)
free_one t h a f = fits_one a f t (h a f)

pub free_two : (t v : Tree) → IsFree t → IsFree v → IsFree (Cons t (Cons v Nil))
free_two t v h g a f = fits_two a f t v (h a f) (g a f)

pub free_three : (t v w : Tree) → IsFree t → IsFree v → IsFree w →
    IsFree (Cons t (Cons v (Cons w Nil)))
free_three t v w h g k a f = fits_three a f t v w (h a f) (g a f) (k a f)

pub free_behind : (ts v : Tree) → IsFree ts → IsFree v → IsFree (behind ts v)
free_behind ts v h g a f = fits_behind a f ts v (h a f) (g a f)

pub free_word : (u : List ℕ) → IsFree (Word u)
free_word u a f = refl

pub free_of_word : (t : Tree) → IsWord t → IsFree t
free_of_word t (u, e) = subst IsFree (sym e) (free_word u)

pub free_missing : IsFree Missing
free_missing a f = refl

pub free_nil : IsFree Nil
free_nil a f = refl
