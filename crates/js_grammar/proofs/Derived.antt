-- Derivations are put together and taken apart, and lead to one place.
use Rattle.std.proofs.Common.{◌≡◌, List, [], ◌∷◌, ◌++◌, refl, sym, subst}
use Rattle.js_tree.specs.Trees.{Tree}
use Rattle.js_grammar.specs.declared.symbol.Start.{Start}
use Rattle.js_grammar.specs.declared.symbol.Symbol.{Symbol}
use Rattle.js_grammar.specs.declared.symbol.Symbol.TheVariants.{Word as T, End, Semicolon, FreeSemicolon}
use Rattle.js_grammar.specs.Grammar.{produce}
use Rattle.js_grammar.specs.Derivations.{Lexeme, Given, Inserted, look, built, Derives, so_far, token, the_end, semicolon, free_semicolon, inserted, free_inserted, part, makes, leaves, beginning, Prefix}

pub compose : {s s1 s2 : List Symbol} {vs vs1 vs2 : List Tree} {us us' : List Lexeme} → Derives s vs us s1 vs1 → Derives s1 vs1 us' s2 vs2 → Derives s vs (us ++ us') s2 vs2
compose so_far e = e
compose (token f d) e = token f (compose d e)
compose (the_end f d) e = the_end f (compose d e)
compose (semicolon f d) e = semicolon f (compose d e)
compose (free_semicolon f d) e = free_semicolon f (compose d e)
compose (inserted d) e = inserted (compose d e)
compose (free_inserted d) e = free_inserted (compose d e)
compose (part d) e = part (compose d e)
compose (makes d) e = makes (compose d e)
compose (leaves d) e = leaves (compose d e)

pub unique : {s s1 s2 : List Symbol} {vs vs1 vs2 : List Tree} {us : List Lexeme} → Derives s vs us s1 vs1 → Derives s vs us s2 vs2 → (s1 ≡ s2) × (vs1 ≡ vs2)
unique so_far so_far = (refl, refl)
unique (token f d) (token g e) = unique d e
unique (the_end f d) (the_end g e) = unique d e
unique (semicolon f d) (semicolon g e) = unique d e
unique (free_semicolon f d) (free_semicolon g e) = unique d e
unique (inserted d) (inserted e) = unique d e
unique (free_inserted d) (free_inserted e) = unique d e
unique (part d) (part e) = unique d e
unique (makes d) (makes e) = unique d e
unique (leaves d) (leaves e) = unique d e

whole : {s s2 : List Symbol} {vs vs2 : List Tree} {zs us' : List Lexeme} → Derives s vs zs s2 vs2 → zs ≡ us' → (s1 : List Symbol) × (vs1 : List Tree) × Derives s vs [] s1 vs1 × Derives s1 vs1 us' s2 vs2
whole {s = s} {s2 = s2} {vs = vs} {vs2 = vs2} d e = (s, vs, so_far, subst (λ z. Derives s vs z s2 vs2) e d)

-- a sentence that is derived in two steps
pub split : {s s2 : List Symbol} {vs vs2 : List Tree} {zs : List Lexeme} → Derives s vs zs s2 vs2 → (us us' : List Lexeme) → zs ≡ us ++ us' →
    (s1 : List Symbol) × (vs1 : List Tree) × Derives s vs us s1 vs1 × Derives s1 vs1 us' s2 vs2
split d [] us' e = whole d e
split so_far (u ∷ us) us' e = absurd (cc)
split (token {v = v} {u = x} {s = s} {vs = vs} f d) (u ∷ us) us' e =
    let (s1, vs1, a, b) = split {s = s} {vs = vs} d us us' (cc) in
    let h : Given x ≡ u = cc in
    (s1, vs1, subst (λ u'. Derives (T v ∷ s) vs (u' ∷ us) s1 vs1) h (token f a), b)
split (the_end {u = x} {s = s} {vs = vs} f d) (u ∷ us) us' e =
    let (s1, vs1, a, b) = split {s = s} {vs = vs} d us us' (cc) in
    let h : Given x ≡ u = cc in
    (s1, vs1, subst (λ u'. Derives (End ∷ s) vs (u' ∷ us) s1 vs1) h (the_end f a), b)
split (semicolon {u = x} {s = s} {vs = vs} f d) (u ∷ us) us' e =
    let (s1, vs1, a, b) = split {s = s} {vs = vs} d us us' (cc) in
    let h : Given x ≡ u = cc in
    (s1, vs1, subst (λ u'. Derives (Semicolon ∷ s) vs (u' ∷ us) s1 vs1) h (semicolon f a), b)
split (free_semicolon {u = x} {s = s} {vs = vs} f d) (u ∷ us) us' e =
    let (s1, vs1, a, b) = split {s = s} {vs = vs} d us us' (cc) in
    let h : Given x ≡ u = cc in
    (s1, vs1, subst (λ u'. Derives (FreeSemicolon ∷ s) vs (u' ∷ us) s1 vs1) h (free_semicolon f a), b)
split (inserted {b = x} {f = y} {s = s} {vs = vs} d) (u ∷ us) us' e =
    let (s1, vs1, a, b) = split {s = s} {vs = vs} d us us' (cc) in
    let h : Inserted x y ≡ u = cc in
    (s1, vs1, subst (λ u'. Derives (Semicolon ∷ s) vs (u' ∷ us) s1 vs1) h (inserted a), b)
split (free_inserted {b = x} {f = y} {s = s} {vs = vs} d) (u ∷ us) us' e =
    let (s1, vs1, a, b) = split {s = s} {vs = vs} d us us' (cc) in
    let h : Inserted x y ≡ u = cc in
    (s1, vs1, subst (λ u'. Derives (FreeSemicolon ∷ s) vs (u' ∷ us) s1 vs1) h (free_inserted a), b)
split (part {x = x} {u = v} {s = s} {vs = vs} d) (u ∷ us) us' e =
    let (s1, vs1, a, b) = split {s = produce x s (look v) vs ++ s} {vs = vs} d (u ∷ us) us' e in
    let h : u ≡ v = cc in
    (s1, vs1, part (subst (λ v'. Derives (produce x s (look v') vs ++ s) vs (u ∷ us) s1 vs1) (sym h) a), b)
split (makes {b = f} {u = v} {s = s} {vs = vs} d) (u ∷ us) us' e =
    let (s1, vs1, a, b) = split {s = s} {vs = built f (look v) vs} d (u ∷ us) us' e in
    let h : u ≡ v = cc in
    (s1, vs1, makes (subst (λ v'. Derives s (built f (look v') vs) (u ∷ us) s1 vs1) (sym h) a), b)
split (leaves {s = s} {vs = vs} d) (u ∷ us) us' e =
    let (s1, vs1, a, b) = split {s = s} {vs = vs} d (u ∷ us) us' e in (s1, vs1, leaves a, b)

-- from where the words so far led to
pub from_beginning : {s0 : List Symbol} {vs0 : List Tree} (start : Start) (ws us : List Lexeme) → Derives (beginning start) [] ws s0 vs0 → Prefix start (ws ++ us) → (s : List Symbol) × (vs : List Tree) × Derives s0 vs0 us s vs
from_beginning {s0 = s0} {vs0 = vs0} start ws us o (s, vs, d) =
    let (s1, vs1, a, b) = split d ws us refl in
    let (e, h) = unique a o in
    (s, vs, subst (λ v. Derives s0 v us s vs) h (subst (λ z. Derives z vs1 us s vs) e b))
