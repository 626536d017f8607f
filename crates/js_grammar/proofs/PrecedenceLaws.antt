-- What is derived as an operation is what is written so.
use Rattle.std.proofs.Common.{◌≡◌, ℕ, zero, suc, Bool, true, false, List, [], ◌∷◌, ◌++◌, ◌+◌, ◌<◌, ◌≤◌, ◌⊎◌, inl, inr, refl, sym, ◌∙◌, ap, subst, arith, append_assoc, append-nil, length, length-append, Option, Some, None}
use Rattle.std.specs.Prelude.{nat_le, ℤ}
use Rattle.std.proofs.lemmas.Grind.{common_steps}
use Rattle.js_tokens.specs.declared.word.Word.{Word}
use Rattle.js_tokens.specs.declared.word.Word.TheVariants as w
use Rattle.js_tree.specs.declared.production.Production.{Production}
use Rattle.js_tree.specs.Trees.{Tree}
use Rattle.js_grammar.specs.declared.sight.Seen.{Seen}
use Rattle.js_grammar.specs.declared.sight.Seen.TheVariants as seen
use Rattle.js_grammar.specs.declared.symbol.Build.{Build}
use Rattle.js_grammar.specs.declared.symbol.Form.{Form}
use Rattle.js_grammar.specs.declared.symbol.Nonterminal.{Nonterminal}
use Rattle.js_grammar.specs.declared.symbol.Nonterminal.TheVariants as n
use Rattle.js_grammar.specs.declared.symbol.Symbol.{Symbol}
use Rattle.js_grammar.specs.declared.symbol.Symbol.TheVariants.{Word as T, Semicolon, Never, Part, Build as Makes}
use Rattle.js_grammar.specs.Grammar.{produce, binary_operator, operators_by, this_word, node}
use Rattle.js_grammar.specs.Derivations.{Lexeme, Given, Inserted, look, built, Derives, so_far, token, the_end, semicolon, free_semicolon, inserted, free_inserted, part, makes, leaves}
use Rattle.js_grammar.specs.Precedence.{symbol_of, just, IsPart, IsOperator, Written, operand, operation, IsBelow, OperationIsWritten, is_expression, OneOperation, ExpressionIsAnywhere, ExpressionComesFirst}
use Rattle.js_grammar.proofs.Derived.{compose, unique, split}
use Rattle.js_grammar.proofs.PrecedenceFit.{Fit}
use Rattle.js_grammar.proofs.PrecedenceParting.{Anywhere, Inside, Parting, within, beyond, parting}

-- what is read can be read alone
readable : {s1 s' : List Symbol} {vs1 vs' : List Tree} {us : List Lexeme} {u : Lexeme} → Derives s1 vs1 (u ∷ us) s' vs' → (vs : List Tree) → Derives (just u ∷ []) vs (u ∷ []) [] vs
readable (token {u = u} a d) vs = subst (λ z. Derives (symbol_of z ∷ []) vs (Given u ∷ []) [] vs) (sym a) (token a so_far)
readable (the_end {u = u} a d) vs = subst (λ z. Derives (symbol_of z ∷ []) vs (Given u ∷ []) [] vs) (sym a) (the_end a so_far)
readable (semicolon {u = u} a d) vs = subst (λ z. Derives (symbol_of z ∷ []) vs (Given u ∷ []) [] vs) (sym a) (token a so_far)
readable (free_semicolon {u = u} a d) vs = subst (λ z. Derives (symbol_of z ∷ []) vs (Given u ∷ []) [] vs) (sym a) (token a so_far)
readable (inserted d) vs = inserted so_far
readable (free_inserted d) vs = inserted so_far
readable (part d) vs = readable d vs
readable (makes d) vs = readable d vs
readable (leaves d) vs = readable d vs

nothing_more : {vs vs' : List Tree} {us : List Lexeme} → Derives [] vs us [] vs' → (us ≡ []) × (vs ≡ vs')
nothing_more so_far = (refl, refl)

only_that : (v : Seen) {vs vs' : List Tree} {u : Lexeme} {us : List Lexeme} → Derives (symbol_of v ∷ []) vs (u ∷ us) [] vs' → (us ≡ []) × (vs ≡ vs')
only_that (seen.Word v) (token a d) = nothing_more d
only_that seen.End (the_end a d) = nothing_more d
only_that seen.Forbidden d = elim d [ ]

only_semicolon : {vs vs' : List Tree} {u : Lexeme} {us : List Lexeme} → Derives (Semicolon ∷ []) vs (u ∷ us) [] vs' → (us ≡ []) × (vs ≡ vs')
only_semicolon (semicolon a d) = nothing_more d
only_semicolon (inserted d) = nothing_more d

only_one : (z : Lexeme) {vs vs' : List Tree} {u : Lexeme} {us : List Lexeme} → Derives (just z ∷ []) vs (u ∷ us) [] vs' → (us ≡ []) × (vs ≡ vs')
only_one (Given z) d = only_that z.seen d
only_one (Inserted b f) d = only_semicolon d

same_last : (ws ws' : List Lexeme) (u u' : Lexeme) → ws ++ u ∷ [] ≡ ws' ++ u' ∷ [] → (ws ≡ ws') × (u ≡ u')
same_last [] [] u u' e = (refl, (cc))
same_last [] (w ∷ []) u u' e = absurd (cc)
same_last [] (w ∷ v ∷ ws) u u' e = absurd (cc)
same_last (w ∷ []) [] u u' e = absurd (cc)
same_last (w ∷ v ∷ ws) [] u u' e = absurd (cc)
same_last (w ∷ ws) (w' ∷ ws') u u' e = let (a, b) = same_last ws ws' u u' (cc) in let c : w ≡ w' = cc in ((cc), b)

not_left : (p : List Symbol) (x : Symbol) (s : List Symbol) → [] ≡ p ++ x ∷ s → ⊥
not_left [] x s e = cc
not_left (y ∷ p) x s e = cc

-- a part that was read before one lexeme is read before it anywhere
record Alone (x : Nonterminal) (ws : List Lexeme) (u : Lexeme) (t : Tree) : Type 0 where
  anywhere : Anywhere (Part x ∷ []) [] ws u t
  behind : (vs : List Tree) → Derives (just u ∷ []) vs (u ∷ []) [] vs

stands_alone : (x : Nonterminal) → Fit (Part x ∷ []) 0 → (ws : List Lexeme) (u : Lexeme) (t : Tree) → IsPart x ws u t → Alone x ws u t
stands_alone x f ws u t d = go (parting d (Part x ∷ []) (just u ∷ []) [] [] refl refl f)
  where
    go : Parting (Part x ∷ []) (just u ∷ []) [] [] (ws ++ u ∷ []) [] (t ∷ []) → Alone x ws u t
    go (within p ts e h i) = absurd (not_left p _ _ e)
    go (beyond ws' us' u' t' e a d') =
        let (n, m) = only_one u d' in
        let (i, j) = same_last ws ws' u u' (e ∙ ap (λ z. ws' ++ u' ∷ z) n) in
        let k : t' ≡ t = cc in
        record {
          anywhere = subst (λ z. Anywhere (Part x ∷ []) [] z u t) (sym i) (subst (λ z. Anywhere (Part x ∷ []) [] ws' z t) (sym j) (subst (λ z. Anywhere (Part x ∷ []) [] ws' u' z) k a));
          behind = λ vs. subst (λ z. Derives (just z ∷ []) vs (z ∷ []) [] vs) (sym j) (readable d' vs);
        }

is_part : (x : Nonterminal) (ws us : List Lexeme) (u : Lexeme) (t : Tree) (s s' : List Symbol) (vs vs' : List Tree) → Anywhere (Part x ∷ []) [] ws u t → Derives s vs (u ∷ us) s' vs' → IsPart x ws u t
is_part x ws us u t s s' vs vs' a d = a (just u ∷ []) [] [] (t ∷ []) [] (readable d (t ∷ []))

fits_alone : (x : Nonterminal) → is_expression x ≡ true → Fit (Part x ∷ []) 0
fits_alone (n.Expression f) h = refl
fits_alone (n.Assignment f) h = refl
fits_alone (n.Conditional f) h = refl
fits_alone (n.Operation least f) h = refl
fits_alone n.Unary h = refl
fits_alone n.LeftHand h = refl
fits_alone n.New h = refl
fits_alone n.Primary h = refl
fits_alone n.Function h = refl
fits_alone _ h = absurd (cc)

nothing_read : {vs vs' : List Tree} {s' : List Symbol} {us : List Lexeme} → Derives [] vs us s' vs' → [] ≡ s'
nothing_read so_far = refl

all_read : (v : Seen) {vs vs' : List Tree} {s' : List Symbol} {u : Lexeme} {us : List Lexeme} → Derives (symbol_of v ∷ []) vs (u ∷ us) s' vs' → [] ≡ s'
all_read (seen.Word v) (token a d) = nothing_read d
all_read seen.End (the_end a d) = nothing_read d
all_read seen.Forbidden d = elim d [ ]

semicolon_read : {vs vs' : List Tree} {s' : List Symbol} {u : Lexeme} {us : List Lexeme} → Derives (Semicolon ∷ []) vs (u ∷ us) s' vs' → [] ≡ s'
semicolon_read (semicolon a d) = nothing_read d
semicolon_read (inserted d) = nothing_read d

just_read : (z : Lexeme) {vs vs' : List Tree} {s' : List Symbol} {u : Lexeme} {us : List Lexeme} → Derives (just z ∷ []) vs (u ∷ us) s' vs' → [] ≡ s'
just_read (Given z) d = all_read z.seen d
just_read (Inserted b f) d = semicolon_read d

nothing_on : (zs : List Lexeme) (u : Lexeme) {vs vs' : List Tree} {s' : List Symbol} → Derives [] vs (zs ++ u ∷ []) s' vs' → ⊥
nothing_on [] u d = elim d [ ]
nothing_on (z ∷ zs) u d = elim d [ ]

-- what is derived inside a part isn't the part
not_inside : (x : Nonterminal) (ws : List Lexeme) (u : Lexeme) (t : Tree) (p : List Symbol) (ts : List Tree) → IsPart x ws u t → Inside (Part x ∷ []) [] (ws ++ u ∷ []) p ts → ⊥
not_inside x ws u t p ts i d = not_left p (just u) [] (unique i (d (just u ∷ []) [])).0

-- of two ways to end a part before one lexeme neither is shorter
no_earlier : (x : Nonterminal) → Fit (Part x ∷ []) 0 → (ws zs : List Lexeme) (v u : Lexeme) (t t' : Tree) → IsPart x ws v t → IsPart x (ws ++ v ∷ zs) u t' → ⊥
no_earlier x f ws zs v u t t' i j = go (split j (ws ++ v ∷ []) (zs ++ u ∷ []) (append_assoc ws (v ∷ zs) (u ∷ []) ∙ sym (append_assoc ws (v ∷ []) (zs ++ u ∷ []))))
  where
    ended : (s : List Symbol) (vs : List Tree) → Derives s vs (zs ++ u ∷ []) [] (t' ∷ []) → Parting (Part x ∷ []) (just u ∷ []) [] [] (ws ++ v ∷ []) s vs → ⊥
    ended s vs b (within p ts e h d) = not_inside x ws v t p ts i d
    ended s vs b (beyond ws' us' u' t'' e a d) = nothing_on zs u (subst (λ z. Derives z vs (zs ++ u ∷ []) [] (t' ∷ [])) (sym (just_read u d)) b)

    go : (s : List Symbol) × (vs : List Tree) × Derives (Part x ∷ just u ∷ []) [] (ws ++ v ∷ []) s vs × Derives s vs (zs ++ u ∷ []) [] (t' ∷ []) → ⊥
    go (s, vs, a, b) = ended s vs b (parting a (Part x ∷ []) (just u ∷ []) [] [] refl refl f)

-- the front of a list of words ends where the list does, or before
data Front (ws : List Lexeme) (u : Lexeme) (ws' : List Lexeme) (u' : Lexeme) (us : List Lexeme) : Type 0 where
  same : ws ≡ ws' → u ≡ u' → us ≡ [] → Front ws u ws' u' us
  before : (ys : List Lexeme) → ws ≡ ws' ++ u' ∷ ys → Front ws u ws' u' us

front : (ws ws' us : List Lexeme) (u u' : Lexeme) → ws ++ u ∷ [] ≡ ws' ++ u' ∷ us → Front ws u ws' u' us
front [] [] us u u' e = same refl (cc) (cc)
front [] (w ∷ []) us u u' e = absurd (cc)
front [] (w ∷ v ∷ ws') us u u' e = absurd (cc)
front (w ∷ ws) [] us u u' e = before ws (cc)
front (w ∷ ws) (w' ∷ ws') us u u' e = longer (front ws ws' us u u' (cc))
  where
    longer : Front ws u ws' u' us → Front (w ∷ ws) u (w' ∷ ws') u' us
    longer (same a b c) = let h : w ≡ w' = cc in same (cc) b c
    longer (before ys a) = let h : w ≡ w' = cc in before ys (cc)

goes_on_behind : (x : Nonterminal) → Fit (Part x ∷ []) 0 → (ws us : List Lexeme) (u : Lexeme) (t : Tree) (s s' : List Symbol) (vs vs' : List Tree) →
    IsPart x ws u t → Derives (Part x ∷ s) vs (ws ++ u ∷ us) s' vs' → Derives s (t ∷ vs) (u ∷ us) s' vs'
goes_on_behind x f ws us u t s s' vs vs' i d = go (split d (ws ++ u ∷ []) us (sym (append_assoc ws (u ∷ []) us)))
  where
    at_front : (s1 : List Symbol) (vs1 : List Tree) → Derives s1 vs1 us s' vs' → (ws' us' : List Lexeme) (u' : Lexeme) (t' : Tree) → IsPart x ws' u' t' → Derives s (t' ∷ vs) (u' ∷ us') s1 vs1 → Front ws u ws' u' us' → Derives s (t ∷ vs) (u ∷ us) s' vs'
    at_front s1 vs1 b ws' us' u' t' j d' (before ys e) = absurd (no_earlier x f ws' ys u' u t' t j (subst (λ z. IsPart x z u t) e i))
    at_front s1 vs1 b ws' us' u' t' j d' (same e g h) =
        let j' : IsPart x ws u t' = subst (λ z. IsPart x z u t') (sym e) (subst (λ z. IsPart x ws' z t') (sym g) j) in
        let k : t' ∷ [] ≡ t ∷ [] = (unique j' i).1 in
        let k' : t' ≡ t = cc in
        subst (λ z. Derives s (z ∷ vs) (u ∷ us) s' vs') k' (subst (λ z. Derives s (t' ∷ vs) (z ∷ us) s' vs') (sym g) (compose (subst (λ z. Derives s (t' ∷ vs) (u' ∷ z) s1 vs1) h d') b))

    ended : (s1 : List Symbol) (vs1 : List Tree) → Derives s1 vs1 us s' vs' → Parting (Part x ∷ []) s [] vs (ws ++ u ∷ []) s1 vs1 → Derives s (t ∷ vs) (u ∷ us) s' vs'
    ended s1 vs1 b (within p ts e h a) = absurd (not_inside x ws u t p ts i a)
    ended s1 vs1 b (beyond ws' us' u' t' e a d') = at_front s1 vs1 b ws' us' u' t' (is_part x ws' us' u' t' s s1 (t' ∷ vs) vs1 a d') d' (front ws ws' us' u u' e)

    go : (s1 : List Symbol) × (vs1 : List Tree) × Derives (Part x ∷ s) vs (ws ++ u ∷ []) s1 vs1 × Derives s1 vs1 us s' vs' → Derives s (t ∷ vs) (u ∷ us) s' vs'
    go (s1, vs1, a, b) = ended s1 vs1 b (parting a (Part x ∷ []) s [] vs refl refl f)

pub expression_is_anywhere : ExpressionIsAnywhere
expression_is_anywhere x ws us u t s s' vs vs' h i = ((stands_alone x (fits_alone x h) ws u t i).anywhere s s' vs vs' us, goes_on_behind x (fits_alone x h) ws us u t s s' vs vs' i)

lone : (x : Nonterminal) (zs : List Lexeme) (p : List Symbol) (ts : List Tree) → Inside (Part x ∷ []) [] zs p ts → Derives (Part x ∷ []) [] zs p ts
lone x zs p ts i = subst (λ z. Derives (Part x ∷ []) [] zs p z) (append-nil ts) (subst (λ z. Derives (Part x ∷ []) [] zs z (ts ++ [])) (append-nil p) (i [] []))

pub expression_comes_first : ExpressionComesFirst
expression_comes_first x zs s s' vs vs' h d = go (parting d (Part x ∷ []) s [] vs refl refl (fits_alone x h))
  where
    go : Parting (Part x ∷ []) s [] vs zs s' vs' → ((p : List Symbol) × (ts : List Tree) × (s' ≡ p ++ s) × (vs' ≡ ts ++ vs) × Derives (Part x ∷ []) [] zs p ts) ⊎
        ((ws : List Lexeme) × (us : List Lexeme) × (u : Lexeme) × (t : Tree) × (zs ≡ ws ++ u ∷ us) × IsPart x ws u t × Derives s (t ∷ vs) (u ∷ us) s' vs')
    go (within p ts e h i) = inl (p, ts, e, h, lone x zs p ts i)
    go (beyond ws us u t e a d') = inr (ws, us, u, t, e, is_part x ws us u t s s' (t ∷ vs) vs' a d', d')

-- From what is written to derivations ---------------------------------------------------------------------------------------

abbrev head : List Lexeme → Lexeme → Lexeme
head [] u = u
head (w ∷ ws) u = w

opened : (least : ℕ) (f : Form) (ws us : List Lexeme) (u : Lexeme) (s s' : List Symbol) (vs vs' : List Tree) →
    Derives (Part n.Unary ∷ Part (n.Operators least f (look (head ws u)).from) ∷ s) vs (ws ++ u ∷ us) s' vs' → Derives (Part (n.Operation least f) ∷ s) vs (ws ++ u ∷ us) s' vs'
opened least f [] us u s s' vs vs' d = part d
opened least f (w ∷ ws) us u s s' vs vs' d = part d

low : (least l : ℕ) → l < least → nat_le least l ≡ false
low least l h = grind (arith, common_steps)

high : (least l : ℕ) → least ≤ l → nat_le least l ≡ true
high least l h = grind (arith, common_steps)

none_by : (least : ℕ) (f : Form) (from : ℕ) (v : Seen) (o : Option (ℕ × Production)) → ((l : ℕ) (q : Production) → o ≡ Some (l, q) → l < least) → operators_by least f from v o ≡ []
none_by least f from v None h = refl
none_by least f from v (Some (l, q)) h = rw (low least l (h l q refl))

some_by : (least : ℕ) (f : Form) (from : ℕ) (v : Seen) (o : Option (ℕ × Production)) (l : ℕ) (q : Production) → o ≡ Some (l, q) → least ≤ l →
    operators_by least f from v o ≡ this_word v ∷ Part (n.Operation (l + 1) f) ∷ node q from 2 ∷ Part (n.Operators least f from) ∷ []
some_by least f from v o l q e h = rw (e, high least l h)

-- what follows doesn't go on here
ends_here : (least : ℕ) (f : Form) (from : ℕ) (us : List Lexeme) (u : Lexeme) (s s' : List Symbol) (vs vs' : List Tree) → IsBelow f least u →
    Derives s vs (u ∷ us) s' vs' → Derives (Part (n.Operators least f from) ∷ s) vs (u ∷ us) s' vs'
ends_here least f from us u s s' vs vs' h d = part (subst (λ z. Derives (z ++ s) vs (u ∷ us) s' vs') (sym (none_by least f from (look u).seen (binary_operator f (look u).seen) h)) d)

a_word : (f : Form) (v : Seen) (l : ℕ) (q : Production) → binary_operator f v ≡ Some (l, q) → (x : Word) × (v ≡ seen.Word x)
a_word f (seen.Word x) l q e = (x, refl)
a_word f _ l q e = absurd (cc)

read_operator : (f : Form) (o : Lexeme) (l : ℕ) (q : Production) → IsOperator f o l q → (us : List Lexeme) (s s' : List Symbol) (vs vs' : List Tree) →
    Derives s vs us s' vs' → Derives (this_word (look o).seen ∷ s) vs (o ∷ us) s' vs'
read_operator f (Inserted b i) l q e us s s' vs vs' d = absurd (cc)
read_operator f (Given u) l q e us s s' vs vs' d =
    let (x, h) = a_word f u.seen l q e in
    subst (λ z. Derives (this_word z ∷ s) vs (Given u ∷ us) s' vs') (sym h) (token h d)

goes_on : (least : ℕ) (f : Form) (from : ℕ) (us : List Lexeme) (o : Lexeme) (l : ℕ) (q : Production) (s s' : List Symbol) (vs vs' : List Tree) → IsOperator f o l q → least ≤ l →
    Derives (Part (n.Operation (l + 1) f) ∷ node q from 2 ∷ Part (n.Operators least f from) ∷ s) vs us s' vs' → Derives (Part (n.Operators least f from) ∷ s) vs (o ∷ us) s' vs'
goes_on least f from us o l q s s' vs vs' e h d =
    part (subst (λ z. Derives (z ++ s) vs (o ∷ us) s' vs') (sym (some_by least f from (look o).seen (binary_operator f (look o).seen) l q e h))
    (read_operator f o l q e us _ s' vs vs' d))

-- no operator above this level
abbrev Tight : Form → ℕ → Lexeme → Type 0
Tight f top u = (l : ℕ) (q : Production) → IsOperator f u l q → l ≤ top

abbrev level_of : Option (ℕ × Production) → ℕ
level_of None = 0
level_of (Some z) = z.0

one_level : (f : Form) (o : Lexeme) (l : ℕ) (q : Production) → IsOperator f o l q → Tight f l o
one_level f o l q e l' q' e' = let h : l ≡ l' = ap level_of (sym e ∙ e') in omega arith

climb : (f : Form) {top : ℕ} {ws : List Lexeme} {u : Lexeme} {t : Tree} → Written f top ws u t → (least : ℕ) → least ≤ top → Tight f top u →
    (us : List Lexeme) (s s' : List Symbol) (vs vs' : List Tree) →
    Derives (Part (n.Operators least f (look (head ws u)).from) ∷ s) (t ∷ vs) (u ∷ us) s' vs' → Derives (Part (n.Operation least f) ∷ s) vs (ws ++ u ∷ us) s' vs'
climb f (operand {ws = ws} {u = u} {t = t} i) least h k us s s' vs vs' d =
    opened least f ws us u s s' vs vs' ((stands_alone n.Unary refl ws u t i).anywhere (Part (n.Operators least f (look (head ws u)).from) ∷ s) s' vs vs' us d)
climb f (operation {level = l} {q = q} {w = w} {o = o} {u = u} {ws = ws} {us = ys} {a = a} {b = b} e g x y) least h k us s s' vs vs' d =
    subst (λ z. Derives (Part (n.Operation least f) ∷ s) vs z s' vs') (sym (append_assoc (w ∷ ws) (o ∷ ys) (u ∷ us)))
    (climb f x least (omega arith) (one_level f o l q e) (ys ++ u ∷ us) s s' vs vs'
    (goes_on least f (look w).from (ys ++ u ∷ us) o l q s s' (a ∷ vs) vs' e (omega arith)
    (climb f y (l + 1) (omega arith) (λ l' q' e'. let h' : l' ≤ _ = k l' q' e' in omega arith) us _ s' (a ∷ vs) vs'
    (ends_here (l + 1) f _ us u _ s' (b ∷ a ∷ vs) vs' (λ l' q' e'. let h' : l' ≤ _ = k l' q' e' in omega arith) (makes d)))))

written_behind : (f : Form) {least : ℕ} {ws : List Lexeme} {u : Lexeme} {t : Tree} → Written f least ws u t → (vs : List Tree) → Derives (just u ∷ []) vs (u ∷ []) [] vs
written_behind f (operand {ws = ws} {u = u} {t = t} i) vs = (stands_alone n.Unary refl ws u t i).behind vs
written_behind f (operation e g x y) vs = written_behind f y vs

written_is : (least : ℕ) (f : Form) (ws : List Lexeme) (u : Lexeme) (t : Tree) → Written f least ws u t → IsBelow f least u → IsPart (n.Operation least f) ws u t
written_is least f ws u t x h =
    climb f x least (omega arith) (λ l q e. let h' : l < least = h l q e in omega arith) [] (just u ∷ []) [] [] (t ∷ [])
    (ends_here least f _ [] u (just u ∷ []) [] (t ∷ []) (t ∷ []) h (written_behind f x (t ∷ [])))

-- From derivations to what is written ---------------------------------------------------------------------------------------

un_part : {x : Nonterminal} {u : Lexeme} {s s' : List Symbol} {vs vs' : List Tree} {us : List Lexeme} → Derives (Part x ∷ s) vs (u ∷ us) s' vs' → Derives (produce x s (look u) vs ++ s) vs (u ∷ us) s' vs'
un_part (part d) = d

un_makes : {b : Build} {u : Lexeme} {s s' : List Symbol} {vs vs' : List Tree} {us : List Lexeme} → Derives (Makes b ∷ s) vs (u ∷ us) s' vs' → Derives s (built b (look u) vs) (u ∷ us) s' vs'
un_makes (makes d) = d

un_word : {v : Word} {u : Lexeme} {s s' : List Symbol} {vs vs' : List Tree} {us : List Lexeme} → Derives (T v ∷ s) vs (u ∷ us) s' vs' → Derives s vs us s' vs'
un_word (token a d) = d

un_opened : (least : ℕ) (f : Form) (ws us : List Lexeme) (u : Lexeme) (s s' : List Symbol) (vs vs' : List Tree) →
    Derives (Part (n.Operation least f) ∷ s) vs (ws ++ u ∷ us) s' vs' → Derives (Part n.Unary ∷ Part (n.Operators least f (look (head ws u)).from) ∷ s) vs (ws ++ u ∷ us) s' vs'
un_opened least f [] us u s s' vs vs' d = un_part d
un_opened least f (w ∷ ws) us u s s' vs vs' d = un_part d

-- an operand has a word
left_over : {x : Symbol} {s : List Symbol} {vs vs' : List Tree} → Derives (x ∷ s) vs [] [] vs' → ⊥
left_over d = elim d [ ]

never : {u : Lexeme} {s s' : List Symbol} {vs vs' : List Tree} {us : List Lexeme} → Derives (Never ∷ s) vs (u ∷ us) s' vs' → ⊥
never d = elim d [ ]

no_operand : (v : Seen) (text : List ℕ) (number : ℤ) (line colon target : Bool) (before from : ℕ) (x : Symbol) (vs vs' : List Tree) →
    Derives (Part n.Unary ∷ x ∷ []) vs (Given (record { seen = v; text = text; number = number; line_before = line; colon = colon; target = target; before = before; from = from }) ∷ []) [] vs' → ⊥
no_operand (seen.Word w.PlusPlus) _ _ _ _ _ _ _ _ _ _ d = left_over (un_word (un_part d))
no_operand (seen.Word w.MinusMinus) _ _ _ _ _ _ _ _ _ _ d = left_over (un_word (un_part d))
no_operand (seen.Word w.Delete) _ _ _ _ _ _ _ _ _ _ d = left_over (un_word (un_part d))
no_operand (seen.Word w.Void) _ _ _ _ _ _ _ _ _ _ d = left_over (un_word (un_part d))
no_operand (seen.Word w.TypeOf) _ _ _ _ _ _ _ _ _ _ d = left_over (un_word (un_part d))
no_operand (seen.Word w.Plus) _ _ _ _ _ _ _ _ _ _ d = left_over (un_word (un_part d))
no_operand (seen.Word w.Minus) _ _ _ _ _ _ _ _ _ _ d = left_over (un_word (un_part d))
no_operand (seen.Word w.BitNot) _ _ _ _ _ _ _ _ _ _ d = left_over (un_word (un_part d))
no_operand (seen.Word w.Not) _ _ _ _ _ _ _ _ _ _ d = left_over (un_word (un_part d))
no_operand (seen.Word w.New) _ _ _ _ _ _ _ _ _ _ d = left_over (un_word (un_part (un_part (un_part d))))
no_operand (seen.Word w.This) _ _ _ _ _ _ _ _ _ _ d = left_over (un_word (un_part (un_part (un_part d))))
no_operand (seen.Word w.Name) _ _ _ _ _ _ _ _ _ _ d = left_over (un_word (un_part (un_part (un_part d))))
no_operand (seen.Word w.Null) _ _ _ _ _ _ _ _ _ _ d = left_over (un_word (un_part (un_part (un_part d))))
no_operand (seen.Word w.True) _ _ _ _ _ _ _ _ _ _ d = left_over (un_word (un_part (un_part (un_part d))))
no_operand (seen.Word w.False) _ _ _ _ _ _ _ _ _ _ d = left_over (un_word (un_part (un_part (un_part d))))
no_operand (seen.Word w.Number) _ _ _ _ _ _ _ _ _ _ d = left_over (un_word (un_part (un_part (un_part d))))
no_operand (seen.Word w.Text) _ _ _ _ _ _ _ _ _ _ d = left_over (un_word (un_part (un_part (un_part d))))
no_operand (seen.Word w.OpenParen) _ _ _ _ _ _ _ _ _ _ d = left_over (un_word (un_part (un_part (un_part d))))
no_operand (seen.Word w.OpenBracket) _ _ _ _ _ _ _ _ _ _ d = left_over (un_word (un_part (un_part (un_part d))))
no_operand (seen.Word w.OpenBrace) _ _ _ _ _ _ _ _ _ _ d = left_over (un_word (un_part (un_part (un_part d))))
no_operand (seen.Word w.Function) _ _ _ _ _ _ _ _ _ _ d = left_over (un_word (un_part (un_part (un_part (un_part d)))))
no_operand _ _ _ _ _ _ _ _ _ _ _ d = never (un_part (un_part (un_part d)))

operand_begins : (u : Lexeme) (t : Tree) → IsPart n.Unary [] u t → ⊥
operand_begins (Given u) t d = no_operand u.seen u.text u.number u.line_before u.colon u.target u.before u.from (symbol_of u.seen) [] (t ∷ []) d
operand_begins (Inserted b f) t d = never (un_part (un_part (un_part d)))

looser : (f : Form) {top : ℕ} {ws : List Lexeme} {u : Lexeme} {t : Tree} (least : ℕ) → least ≤ top → Written f top ws u t → Written f least ws u t
looser f least h (operand i) = operand i
looser f least h (operation e g x y) = operation e (omega arith) x y

-- what an operation of fewer words is known to be
abbrev Known : ℕ → Form → Type 0
Known m f = (least : ℕ) (ws : List Lexeme) (u : Lexeme) (t : Tree) → length ws < m → IsPart (n.Operation least f) ws u t → Written f least ws u t × IsBelow f least u

read_word : (f : Form) (o : Lexeme) (l : ℕ) (q : Production) → IsOperator f o l q → {us : List Lexeme} {s s' : List Symbol} {vs vs' : List Tree} →
    Derives (this_word (look o).seen ∷ s) vs (o ∷ us) s' vs' → Derives s vs us s' vs'
read_word f o l q e {us = us} {s = s} {s' = s'} {vs = vs} {vs' = vs'} d =
    let (x, h) = a_word f (look o).seen l q e in
    un_word (subst (λ z. Derives (this_word z ∷ s) vs (o ∷ us) s' vs') h d)

in_order : (least l : ℕ) → (l < least) ⊎ (least ≤ l)
in_order least l = grind arith

shorter : (us ys zs : List Lexeme) (v : Lexeme) → us ≡ ys ++ v ∷ zs → (length ys < length us) × (length zs < length us)
shorter us ys zs v e = let h : length us ≡ length ys + length (v ∷ zs) = ap length e ∙ length-append ys (v ∷ zs) in (omega arith, omega arith)

-- so far an operation is written: what is known where it goes on
abbrev Onward : Form → ℕ → ℕ → ℕ → List Lexeme → Lexeme → Tree → Lexeme → Type 0
Onward f m k least ws u t w = (top : ℕ) (v : Lexeme) (xs us : List Lexeme) (a : Tree) →
    length us < k → length us ≤ m → Written f top (w ∷ xs) v a → least ≤ top → Tight f top v → ws ++ u ∷ [] ≡ w ∷ xs ++ v ∷ us →
    Derives (Part (n.Operators least f (look w).from) ∷ just u ∷ []) (a ∷ []) (v ∷ us) [] (t ∷ []) → Written f least ws u t × IsBelow f least u

one_more : (f : Form) (m : ℕ) → Known m f → (k least : ℕ) (ws : List Lexeme) (u : Lexeme) (t : Tree) (w : Lexeme) → Onward f m k least ws u t w →
    (v : Lexeme) (xs us : List Lexeme) (a : Tree) (l : ℕ) (q : Production) → length us < suc k → length us ≤ m → Written f l (w ∷ xs) v a → ws ++ u ∷ [] ≡ w ∷ xs ++ v ∷ us →
    IsOperator f v l q → least ≤ l → Derives (Part (n.Operators least f (look w).from) ∷ just u ∷ []) (a ∷ []) (v ∷ us) [] (t ∷ []) → Written f least ws u t × IsBelow f least u
one_more f m known k least ws u t w onward v xs us a l q c c' x e o le d =
    go (expression_comes_first (n.Operation (l + 1) f) us _ [] (a ∷ []) (t ∷ []) refl
    (read_word f v l q o (subst (λ z. Derives (z ++ just u ∷ []) (a ∷ []) (v ∷ us) [] (t ∷ [])) (some_by least f (look w).from (look v).seen (binary_operator f (look v).seen) l q o le) (un_part d))))
  where
    behind : List Symbol
    behind = node q (look w).from 2 ∷ Part (n.Operators least f (look w).from) ∷ just u ∷ []

    go : ((p : List Symbol) × (ts : List Tree) × ([] ≡ p ++ behind) × (t ∷ [] ≡ ts ++ a ∷ []) × Derives (Part (n.Operation (l + 1) f) ∷ []) [] us p ts) ⊎
        ((ys : List Lexeme) × (zs : List Lexeme) × (v' : Lexeme) × (b : Tree) × (us ≡ ys ++ v' ∷ zs) × IsPart (n.Operation (l + 1) f) ys v' b × Derives behind (b ∷ a ∷ []) (v' ∷ zs) [] (t ∷ [])) →
        Written f least ws u t × IsBelow f least u
    go (inl (p, ts, e', h, i)) = absurd (not_left p _ _ e')
    go (inr (ys, zs, v', b, e', i, d')) =
        let (s, s') = shorter us ys zs v' e' in
        let (y, below) = known (l + 1) ys v' b (omega arith) i in
        onward l v' (xs ++ v ∷ ys) zs _ (omega arith) (omega arith) (operation o (omega arith) x y) le
        (λ l' q' o'. let h : l' < l + 1 = below l' q' o' in omega arith)
        (e ∙ ap (λ z. w ∷ xs ++ v ∷ z) e' ∙ sym (append_assoc (w ∷ xs) (v ∷ ys) (v' ∷ zs)))
        (un_makes d')

-- its operators end here
whole : (f : Form) (least top : ℕ) (ws : List Lexeme) (u : Lexeme) (t : Tree) (w v : Lexeme) (xs us : List Lexeme) (a : Tree) → Written f top (w ∷ xs) v a → least ≤ top →
    ws ++ u ∷ [] ≡ w ∷ xs ++ v ∷ us → IsBelow f least v → Derives (Part (n.Operators least f (look w).from) ∷ just u ∷ []) (a ∷ []) (v ∷ us) [] (t ∷ []) → Written f least ws u t × IsBelow f least u
whole f least top ws u t w v xs us a x h e below d =
    let d' : Derives (just u ∷ []) (a ∷ []) (v ∷ us) [] (t ∷ []) = subst (λ z. Derives (z ++ just u ∷ []) (a ∷ []) (v ∷ us) [] (t ∷ [])) (none_by least f (look w).from (look v).seen (binary_operator f (look v).seen) below) (un_part d) in
    let (i, j) = only_one u d' in
    let (p, q) = same_last ws (w ∷ xs) u v (e ∙ ap (λ z. w ∷ xs ++ v ∷ z) i) in
    let r : a ≡ t = cc in (
      subst (λ z. Written f least ws u z) r (subst (λ z. Written f least z u a) (sym p) (subst (λ z. Written f least (w ∷ xs) z a) (sym q) (looser f least h x))),
      subst (λ z. IsBelow f least z) (sym q) below,
    )

onward : (f : Form) (m : ℕ) → Known m f → (k least : ℕ) (ws : List Lexeme) (u : Lexeme) (t : Tree) (w : Lexeme) → Onward f m k least ws u t w
onward f m known zero least ws u t w top v xs us a c c' x h tight e d = absurd (omega arith)
onward f m known (suc k) least ws u t w top v xs us a c c' x h tight e d =
    by (binary_operator f (look v).seen) refl (onward f m known k least ws u t w)
  where
    by : (o : Option (ℕ × Production)) → binary_operator f (look v).seen ≡ o → Onward f m k least ws u t w → Written f least ws u t × IsBelow f least u
    by None o again = whole f least top ws u t w v xs us a x h e (λ l q o'. absurd (cc)) d
    by (Some (l, q)) o again = elim (in_order least l) [
      | inl lt ↦ whole f least top ws u t w v xs us a x h e (λ l' q' o'. let i : l ≡ l' = ap level_of (sym o ∙ o') in omega arith) d
      | inr le ↦ one_more f m known k least ws u t w again v xs us a l q c c' (looser f l (tight l q o) x) e o le d
    ]

head_is : (ws zs : List Lexeme) (u w : Lexeme) → ws ++ u ∷ [] ≡ w ∷ zs → head ws u ≡ w
head_is [] zs u w e = cc
head_is (v ∷ ws) zs u w e = cc

from_operand : (f : Form) (m : ℕ) → Known m f → (least : ℕ) (ws : List Lexeme) (u : Lexeme) (t : Tree) → length ws < suc m → (xs us : List Lexeme) (v : Lexeme) (a : Tree) →
    ws ++ u ∷ [] ≡ xs ++ v ∷ us → IsPart n.Unary xs v a →
    Derives (Part (n.Operators least f (look (head ws u)).from) ∷ just u ∷ []) (a ∷ []) (v ∷ us) [] (t ∷ []) → Written f least ws u t × IsBelow f least u
from_operand f m known least ws u t c [] us v a e i d = absurd (operand_begins v a i)
from_operand f m known least ws u t c (w ∷ xs) us v a e i d =
    let h : length ws + length (u ∷ []) ≡ length (w ∷ xs) + length (v ∷ us) = sym (length-append ws (u ∷ [])) ∙ ap length e ∙ length-append (w ∷ xs) (v ∷ us) in
    onward f m known (suc (length us)) least ws u t w (least + level_of (binary_operator f (look v).seen)) v xs us a (omega arith) (omega arith) (operand i) (omega arith)
    (λ l q o. let k : level_of (binary_operator f (look v).seen) ≡ l = ap level_of o in omega arith) e
    (subst (λ z. Derives (Part (n.Operators least f (look z).from) ∷ just u ∷ []) (a ∷ []) (v ∷ us) [] (t ∷ [])) (head_is ws _ u w e) d)

is_written : (f : Form) (m : ℕ) → Known m f
is_written f zero least ws u t c i = absurd (omega arith)
is_written f (suc m) least ws u t c i =
    by (is_written f m) (parting (un_opened least f ws [] u (just u ∷ []) [] [] (t ∷ []) i) (Part n.Unary ∷ []) behind [] [] refl refl refl)
  where
    behind : List Symbol
    behind = Part (n.Operators least f (look (head ws u)).from) ∷ just u ∷ []

    by : Known m f → Parting (Part n.Unary ∷ []) behind [] [] (ws ++ u ∷ []) [] (t ∷ []) → Written f least ws u t × IsBelow f least u
    by known (within p ts e h i) = absurd (not_left p _ _ e)
    by known (beyond xs us v a e all d) = from_operand f m known least ws u t c xs us v a e (is_part n.Unary xs us v a behind [] (a ∷ []) (t ∷ []) all d) d

pub operation_is_written : OperationIsWritten
operation_is_written least f ws u t = (is_written f (suc (length ws)) least ws u t (omega arith), λ (x, h). written_is least f ws u t x h)

pub one_operation : OneOperation
one_operation least f ws u t t' h x y =
    let e : t ∷ [] ≡ t' ∷ [] = (unique (written_is least f ws u t x h) (written_is least f ws u t' y h)).1 in cc
