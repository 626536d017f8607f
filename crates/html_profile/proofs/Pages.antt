-- The pieces of a page, one after another.
use Rattle.std.proofs.Common.{◌≡◌, ◌≢◌, ℕ, ◌==◌, true, false, List, [], ◌∷◌, length, fold, sym, ap, ◌∙◌}
use Rattle.std.proofs.lemmas.Bool.{false≢true, eqb-true}
use Rattle.std.proofs.lemmas.List.{nil_from_length}
use Rattle.html_profile.specs.Pieces.{IsPiece, Reads}
use Rattle.html_profile.specs.Tree.{State, settled, step, beginning}
use Rattle.html_profile.specs.Page.{IsTree}
use Rattle.html_profile.specs.declared.piece.Piece.{Piece}

-- whatever pieces this rest has, the text has them behind others that make this state
abbrev pub GoesOn : ℕ → List ℕ → List ℕ → State → Type 0
GoesOn total text rest s = (more : List Piece) → Reads rest more [] → (all : List Piece) × Reads text all [] × (fold (step total) beginning all ≡ fold (step total) s more)

pub goes_on : (total known : ℕ) (text rest behind : List ℕ) (piece : Piece) (s t : State) → GoesOn total text rest s → rest ≢ [] → IsPiece rest piece behind → known ≡ total → t ≡ step known s piece
    → GoesOn total text behind t
goes_on total known text rest behind piece s t on apart is known_is t_is = λ more reads.
    let found = on (piece ∷ more) (behind, apart, is, reads) in
    let made_is : t ≡ step total s piece = t_is ∙ ap (λ n. step n s piece) known_is in
    (found.0, found.1, found.2 ∙ ap (λ u. fold (step total) u more) (sym made_is))

-- where nothing is left, the state is that of the text's pieces
pub tree_is : (total : ℕ) (text rest : List ℕ) (s t : State) → GoesOn total text rest s → rest ≡ [] → t ≡ settled s → IsTree total text t
tree_is total text rest s t on none t_is =
    let found = on [] none in
    (found.0, found.1, t_is ∙ ap settled (sym found.2))

pub not_empty : (rest : List ℕ) → false ≡ (length rest == 0) → rest ≢ []
not_empty rest test is = false≢true (test ∙ ap (λ l. length l == 0) is)

pub is_empty : (rest : List ℕ) → true ≡ (length rest == 0) → rest ≡ []
is_empty rest test = nil_from_length rest (eqb-true (length rest) 0 (sym test))
