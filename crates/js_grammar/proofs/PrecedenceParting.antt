-- What is derived from a part and what is behind it: the part is left, or it is finished first and the rest goes on.
use Rattle.std.proofs.Common.{◌≡◌, ℕ, List, [], ◌∷◌, ◌++◌, refl, sym, ◌∙◌, ap, ap₂, subst, append_assoc}
use Rattle.js_tree.specs.Trees.{Tree}
use Rattle.js_grammar.specs.declared.symbol.Symbol.{Symbol}
use Rattle.js_grammar.specs.declared.symbol.Symbol.TheVariants.{Word as T, End, Semicolon, FreeSemicolon, Part, Build as Makes, Leave}
use Rattle.js_grammar.specs.Grammar.{produce}
use Rattle.js_grammar.specs.Derivations.{Lexeme, Given, Inserted, look, built, Derives, so_far, token, the_end, semicolon, free_semicolon, inserted, free_inserted, part, makes, leaves}
use Rattle.js_grammar.proofs.PrecedenceFit.{Fit, size, fit_production, same_production, built_within}

-- wherever these symbols and trees stand, these words and u behind them lead to the tree
abbrev pub Anywhere : List Symbol → List Tree → List Lexeme → Lexeme → Tree → Type 0
Anywhere p ts ws u t = (s s' : List Symbol) (vs vs' : List Tree) (us : List Lexeme) → Derives s (t ∷ vs) (u ∷ us) s' vs' → Derives (p ++ s) (ts ++ vs) (ws ++ u ∷ us) s' vs'

-- wherever they stand, these words lead from these symbols and trees to those
abbrev pub Inside : List Symbol → List Tree → List Lexeme → List Symbol → List Tree → Type 0
Inside p ts zs p' ts' = (s : List Symbol) (vs : List Tree) → Derives (p ++ s) (ts ++ vs) zs (p' ++ s) (ts' ++ vs)

pub data Parting (p s : List Symbol) (ts vs : List Tree) (zs : List Lexeme) (s' : List Symbol) (vs' : List Tree) : Type 0 where
  within : (p' : List Symbol) (ts' : List Tree) → s' ≡ p' ++ s → vs' ≡ ts' ++ vs → Inside p ts zs p' ts' → Parting p s ts vs zs s' vs'
  beyond : (ws us : List Lexeme) (u : Lexeme) (t : Tree) → zs ≡ ws ++ u ∷ us → Anywhere p ts ws u t → Derives s (t ∷ vs) (u ∷ us) s' vs' → Parting p s ts vs zs s' vs'

one_tree : (ts : List Tree) → size ts ≡ 1 → (t : Tree) × (ts ≡ t ∷ [])
one_tree [] e = absurd (cc)
one_tree (t ∷ []) e = (t, refl)
one_tree (t ∷ v ∷ ts) e = absurd (cc)

-- nothing of the part is left
finished : (s : List Symbol) (ts vs : List Tree) (w : Lexeme) (zs : List Lexeme) (s' : List Symbol) (vs' : List Tree) → size ts ≡ 1 → Derives s (ts ++ vs) (w ∷ zs) s' vs' → Parting [] s ts vs (w ∷ zs) s' vs'
finished s ts vs w zs s' vs' h d =
    let (t, e) = one_tree ts h in
    beyond [] zs w t refl
    (λ s0 s0' vs0 vs0' us0 d0. subst (λ x. Derives s0 (x ++ vs0) (w ∷ us0) s0' vs0') (sym e) d0)
    (subst (λ x. Derives s (x ++ vs) (w ∷ zs) s' vs') e d)

-- a step that reads a word
reading : (x : Symbol) (w : Lexeme) (p s : List Symbol) (ts vs : List Tree) (zs : List Lexeme) (s' : List Symbol) (vs' : List Tree) →
    ((s0 s0' : List Symbol) (vs0 vs0' : List Tree) (zs0 : List Lexeme) → Derives s0 vs0 zs0 s0' vs0' → Derives (x ∷ s0) vs0 (w ∷ zs0) s0' vs0') →
    Parting p s ts vs zs s' vs' → Parting (x ∷ p) s ts vs (w ∷ zs) s' vs'
reading x w p s ts vs zs s' vs' step (within p' ts' e h i) = within p' ts' e h (λ s0 vs0. step (p ++ s0) (p' ++ s0) (ts ++ vs0) (ts' ++ vs0) zs (i s0 vs0))
reading x w p s ts vs zs s' vs' step (beyond ws us u t e f d) =
    beyond (w ∷ ws) us u t (ap (λ z. w ∷ z) e) (λ s0 s0' vs0 vs0' us0 d0. step (p ++ s0) s0' (ts ++ vs0) vs0' (ws ++ u ∷ us0) (f s0 s0' vs0 vs0' us0 d0)) d

begins_so : (w u : Lexeme) (zs ws us us0 : List Lexeme) → w ∷ zs ≡ ws ++ u ∷ us → (rest : List Lexeme) × (ws ++ u ∷ us0 ≡ w ∷ rest)
begins_so w u zs [] us us0 e = (us0, (cc))
begins_so w u zs (v ∷ ws) us us0 e = (ws ++ u ∷ us0, (cc))

-- a step that reads nothing
silent : (x : Symbol) (w : Lexeme) (p q s : List Symbol) (ts us0 vs : List Tree) (zs : List Lexeme) (s' : List Symbol) (vs' : List Tree) →
    ((s0 s0' : List Symbol) (vs0 vs0' : List Tree) (zs0 : List Lexeme) → Derives (q ++ s0) (us0 ++ vs0) (w ∷ zs0) s0' vs0' → Derives (x ∷ p ++ s0) (ts ++ vs0) (w ∷ zs0) s0' vs0') →
    Parting q s us0 vs (w ∷ zs) s' vs' → Parting (x ∷ p) s ts vs (w ∷ zs) s' vs'
silent x w p q s ts ts0 vs zs s' vs' step (within p' ts' e h i) = within p' ts' e h (λ s0 vs0. step s0 (p' ++ s0) vs0 (ts' ++ vs0) zs (i s0 vs0))
silent x w p q s ts ts0 vs zs s' vs' step (beyond ws us u t e f d) =
    beyond ws us u t e
    (λ s0 s0' vs0 vs0' us0 d0.
    let (rest, h) = begins_so w u zs ws us us0 e in
    subst (λ z. Derives (x ∷ p ++ s0) (ts ++ vs0) z s0' vs0') (sym h)
    (step s0 s0' vs0 vs0' rest (subst (λ z. Derives (q ++ s0) (ts0 ++ vs0) z s0' vs0') h (f s0 s0' vs0 vs0' us0 d0))))
    d

-- how a part and what is behind it are taken apart, from one point on
abbrev Parts : List Symbol → List Tree → List Lexeme → List Symbol → List Tree → Type 0
Parts s1 vs1 zs s' vs' = (p s : List Symbol) (ts vs : List Tree) → s1 ≡ p ++ s → vs1 ≡ ts ++ vs → Fit p (size ts) → Parting p s ts vs zs s' vs'

reads_word : (y : Symbol) (w : Lexeme) (s1 s' : List Symbol) (vs1 vs' : List Tree) (us : List Lexeme) →
    ((p : List Symbol) (m : ℕ) → Fit (y ∷ p) m → Fit p m) →
    ((s0 s0' : List Symbol) (vs0 vs0' : List Tree) (zs0 : List Lexeme) → Derives s0 vs0 zs0 s0' vs0' → Derives (y ∷ s0) vs0 (w ∷ zs0) s0' vs0') →
    Derives s1 vs1 us s' vs' → Parts s1 vs1 us s' vs' → Parts (y ∷ s1) vs1 (w ∷ us) s' vs'
reads_word y w s1 s' vs1 vs' us fit step d r [] s ts vs e h f =
    finished s ts vs w us s' vs' f (subst (λ x. Derives s x (w ∷ us) s' vs') h (subst (λ x. Derives x vs1 (w ∷ us) s' vs') e (step s1 s' vs1 vs' us d)))
reads_word y w s1 s' vs1 vs' us fit step d r (x ∷ p) s ts vs e h f =
    let i : y ≡ x = cc in
    subst (λ z. Parting (z ∷ p) s ts vs (w ∷ us) s' vs') i
    (reading y w p s ts vs us s' vs' step (r p s ts vs (cc) h (fit p (size ts) (subst (λ z. Fit (z ∷ p) (size ts)) (sym i) f))))

opens_part : (y : Symbol) (w : Lexeme) (s1 s' : List Symbol) (vs1 vs' : List Tree) (us : List Lexeme) → Derives (y ∷ s1) vs1 (w ∷ us) s' vs' →
    ((p s : List Symbol) (ts vs : List Tree) → s1 ≡ p ++ s → vs1 ≡ ts ++ vs → Fit (y ∷ p) (size ts) → Parting (y ∷ p) s ts vs (w ∷ us) s' vs') →
    Parts (y ∷ s1) vs1 (w ∷ us) s' vs'
opens_part y w s1 s' vs1 vs' us d r [] s ts vs e h f =
    finished s ts vs w us s' vs' f (subst (λ x. Derives s x (w ∷ us) s' vs') h (subst (λ x. Derives x vs1 (w ∷ us) s' vs') e d))
opens_part y w s1 s' vs1 vs' us d r (x ∷ p) s ts vs e h f =
    let i : y ≡ x = cc in
    subst (λ z. Parting (z ∷ p) s ts vs (w ∷ us) s' vs') i (r p s ts vs (cc) h (subst (λ z. Fit (z ∷ p) (size ts)) (sym i) f))

pub parting : {s1 s' : List Symbol} {vs1 vs' : List Tree} {zs : List Lexeme} → Derives s1 vs1 zs s' vs' → Parts s1 vs1 zs s' vs'
parting so_far p s ts vs e h f = within p ts e h (λ s0 vs0. so_far)
parting {s' = s'} {vs' = vs'} (token {v = v} {u = u} {s = s1} {vs = vs1} {us = us} a d) p s ts vs e h f =
    reads_word (T v) (Given u) s1 s' vs1 vs' us (λ p m f. f) (λ s0 s0' vs0 vs0' zs0 d0. token a d0) d (λ p s ts vs e h f. parting {s1 = s1} {vs1 = vs1} d p s ts vs e h f) p s ts vs e h f
parting {s' = s'} {vs' = vs'} (the_end {u = u} {s = s1} {vs = vs1} {us = us} a d) p s ts vs e h f =
    reads_word End (Given u) s1 s' vs1 vs' us (λ p m f. f) (λ s0 s0' vs0 vs0' zs0 d0. the_end a d0) d (λ p s ts vs e h f. parting {s1 = s1} {vs1 = vs1} d p s ts vs e h f) p s ts vs e h f
parting {s' = s'} {vs' = vs'} (semicolon {u = u} {s = s1} {vs = vs1} {us = us} a d) p s ts vs e h f =
    reads_word Semicolon (Given u) s1 s' vs1 vs' us (λ p m f. f) (λ s0 s0' vs0 vs0' zs0 d0. semicolon a d0) d (λ p s ts vs e h f. parting {s1 = s1} {vs1 = vs1} d p s ts vs e h f) p s ts vs e h f
parting {s' = s'} {vs' = vs'} (free_semicolon {u = u} {s = s1} {vs = vs1} {us = us} a d) p s ts vs e h f =
    reads_word FreeSemicolon (Given u) s1 s' vs1 vs' us (λ p m f. f) (λ s0 s0' vs0 vs0' zs0 d0. free_semicolon a d0) d (λ p s ts vs e h f. parting {s1 = s1} {vs1 = vs1} d p s ts vs e h f) p s ts vs e h f
parting {s' = s'} {vs' = vs'} (inserted {b = b} {f = i} {s = s1} {vs = vs1} {us = us} d) p s ts vs e h f =
    reads_word Semicolon (Inserted b i) s1 s' vs1 vs' us (λ p m f. f) (λ s0 s0' vs0 vs0' zs0 d0. inserted d0) d (λ p s ts vs e h f. parting {s1 = s1} {vs1 = vs1} d p s ts vs e h f) p s ts vs e h f
parting {s' = s'} {vs' = vs'} (free_inserted {b = b} {f = i} {s = s1} {vs = vs1} {us = us} d) p s ts vs e h f =
    reads_word FreeSemicolon (Inserted b i) s1 s' vs1 vs' us (λ p m f. f) (λ s0 s0' vs0 vs0' zs0 d0. free_inserted d0) d (λ p s ts vs e h f. parting {s1 = s1} {vs1 = vs1} d p s ts vs e h f) p s ts vs e h f
parting {s' = s'} {vs' = vs'} (part {x = x} {u = w} {s = s1} {vs = vs1} {us = us} d) p s ts vs e h f =
    opens_part (Part x) w s1 s' vs1 vs' us (part d)
    (λ p s ts vs e h f.
    let q : List Symbol = produce x (p ++ s) (look w) (ts ++ vs) in
    silent (Part x) w p (q ++ p) s ts ts vs us s' vs'
    (λ s0 s0' vs0 vs0' zs0 d0. part (subst (λ z. Derives z (ts ++ vs0) (w ∷ zs0) s0' vs0')
    (append_assoc q p s0 ∙ ap (λ z. z ++ (p ++ s0)) (same_production x p s s0 (look w) ts vs vs0 f)) d0))
    (parting {s1 = produce x s1 (look w) vs1 ++ s1} {vs1 = vs1} d (q ++ p) s ts vs
    (ap₂ (λ a b. produce x a (look w) b ++ a) e h ∙ sym (append_assoc q p s)) h (fit_production x (p ++ s) (look w) (ts ++ vs) p (size ts) f)))
    p s ts vs e h f
parting {s' = s'} {vs' = vs'} (makes {b = b} {u = w} {s = s1} {vs = vs1} {us = us} d) p s ts vs e h f =
    opens_part (Makes b) w s1 s' vs1 vs' us (makes d)
    (λ p s ts vs e h f.
    let (ts', f', i) = built_within b (look w) ts (Fit p) f in
    silent (Makes b) w p p s ts ts' vs us s' vs'
    (λ s0 s0' vs0 vs0' zs0 d0. makes (subst (λ z. Derives (p ++ s0) z (w ∷ zs0) s0' vs0') (sym (i vs0)) d0))
    (parting {s1 = s1} {vs1 = built b (look w) vs1} d p s ts' vs e (ap (built b (look w)) h ∙ i vs) f'))
    p s ts vs e h f
parting {s' = s'} {vs' = vs'} (leaves {o = o} {u = w} {s = s1} {vs = vs1} {us = us} d) p s ts vs e h f =
    opens_part (Leave o) w s1 s' vs1 vs' us (leaves d)
    (λ p s ts vs e h f.
    silent (Leave o) w p p s ts ts vs us s' vs' (λ s0 s0' vs0 vs0' zs0 d0. leaves d0)
    (parting {s1 = s1} {vs1 = vs1} d p s ts vs e h f))
    p s ts vs e h f
