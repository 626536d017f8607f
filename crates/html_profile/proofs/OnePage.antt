-- Bytes are one page at most.
use Rattle.std.proofs.Common.{◌≡◌, ℕ, List, [], ◌∷◌, Option, Some, None, refl, sym, ap, subst, ◌∙◌}
use Rattle.html_profile.specs.Attributes.{IsAttributes}
use Rattle.html_profile.specs.Pieces.{kind_of, IsTag, IsStartTag, IsPieceOf, Reads}
use Rattle.html_profile.specs.Tree.{State, made}
use Rattle.html_profile.specs.Page.{Page, IsTree, IsPageBehind, page_of}
use Rattle.html_profile.specs.declared.piece.Kind.{Kind}
use Rattle.html_profile.specs.declared.piece.Kind.TheVariants.{Comment, Other, Ending, Starting, Words}
use Rattle.html_profile.specs.declared.piece.Piece.{Piece}
use Rattle.html_profile.specs.declared.tag.Attribute.{Attribute}

-- two answers to one question
abbrev Same : {A B : Type 0} → A → A → B → B → Type 0
Same a b c d = (a ≡ b) × (c ≡ d)

no_and_one : {x : Option (Attribute × List ℕ)} {a : Attribute} {rest : List ℕ} → x ≡ None → x ≡ Some (a, rest) → ⊥
no_and_one none one = cc

some_same : (x y : Attribute × List ℕ) → Some x ≡ Some y → x ≡ y
some_same x y is = cc

one_found : {x : Option (Attribute × List ℕ)} {a b : Attribute} {r t : List ℕ} → x ≡ Some (a, r) → x ≡ Some (b, t) → Same a b r t
one_found first second =
    let same = some_same _ _ (sym first ∙ second) in
    (ap (λ (p : Attribute × List ℕ). p.0) same, ap (λ (p : Attribute × List ℕ). p.1) same)

one_attributes : (text : List ℕ) (xs ys : List Attribute) (end last : Option (List ℕ)) → IsAttributes text xs end → IsAttributes text ys last → Same xs ys end last
one_attributes text [] [] end last first second = (refl, first.1 ∙ sym second.1)
one_attributes text [] (y ∷ ys) end last first second = absurd (no_and_one first.0 second.1)
one_attributes text (x ∷ xs) [] end last first second = absurd (no_and_one second.0 first.1)
one_attributes text (x ∷ xs) (y ∷ ys) end last first second =
    let found = one_found first.1 second.1 in
    let more = one_attributes first.0 xs ys end last first.2 (subst (λ t. IsAttributes t ys last) (sym found.1) second.2) in
    ((λ i. found.0 i ∷ more.0 i), more.1)

one_tag : (name : List ℕ) (attributes : List Attribute) (end : Option (List ℕ)) (p q : Piece) (b c : List ℕ) → IsTag name attributes end p b → IsTag name attributes end q c → Same p q b c
one_tag name attributes None p q b c first second = (first.0 ∙ sym second.0, first.1 ∙ sym second.1)
one_tag name attributes (Some rest) p q b c first second = (first.0 ∙ sym second.0, first.1 ∙ sym second.1)

one_start_tag : (text : List ℕ) (p q : Piece) (b c : List ℕ) → IsStartTag text p b → IsStartTag text q c → Same p q b c
one_start_tag text p q b c first second =
    let same = one_attributes _ first.attributes second.attributes first.rest second.rest first.all second.all in
    one_tag _ first.attributes first.rest p q b c first.tag
    (subst (λ r. IsTag _ first.attributes r q c) (sym same.1) (subst (λ l. IsTag _ l second.rest q c) (sym same.0) second.tag))

one_piece : (kind : Kind) (text : List ℕ) (p q : Piece) (b c : List ℕ) → IsPieceOf kind text p b → IsPieceOf kind text q c → Same p q b c
one_piece Comment text p q b c first second = (first.0 ∙ sym second.0, first.1 ∙ sym second.1)
one_piece Other text p q b c first second = (first.0 ∙ sym second.0, first.1 ∙ sym second.1)
one_piece Ending text p q b c first second = (first.0 ∙ sym second.0, first.1 ∙ sym second.1)
one_piece Starting text p q b c first second = one_start_tag text p q b c first second
one_piece Words text p q b c first second = (first.0 ∙ sym second.0, first.1 ∙ sym second.1)

-- a text has one list of pieces
pub one_list : (text : List ℕ) (ps qs : List Piece) → Reads text ps [] → Reads text qs [] → ps ≡ qs
one_list text [] [] first second = refl
one_list text [] (q ∷ qs) first second = absurd (second.1 first)
one_list text (p ∷ ps) [] first second = absurd (first.1 second)
one_list text (p ∷ ps) (q ∷ qs) first second =
    let same = one_piece (kind_of text) text p q first.0 second.0 first.2 second.2 in
    let more = one_list first.0 ps qs first.3 (subst (λ t. Reads t qs []) (sym same.1) second.3) in
    λ i. same.0 i ∷ more i

one_tree : (total : ℕ) (text : List ℕ) (s t : State) → IsTree total text s → IsTree total text t → s ≡ t
one_tree total text s t first second = first.2 ∙ ap (made total) (one_list text first.0 second.0 first.1 second.1) ∙ sym second.2

pub one_page : (mark : ℕ) (bytes : List ℕ) (p q : Page) → IsPageBehind mark bytes p → IsPageBehind mark bytes q → p ≡ q
one_page mark bytes p q first second =
    let same = one_tree _ _ first.0 second.0 first.1 second.1 in
    first.2 ∙ ap page_of same ∙ sym second.2
