-- The answer of a text is one, and a refusal is the first.
use Rattle.std.proofs.Common.{◌≡◌, ℕ, List, [], ◌∷◌, ◌++◌, ◌+◌, ◌<◌, ◌≤◌, ◌⊎◌, refl, sym, ap, subst, arith, inl, inr, le_refl}
use Rattle.js_tree.specs.Trees.{Tree}
use Rattle.js_grammar.specs.declared.symbol.Symbol.{Symbol}
use Rattle.js_grammar.specs.Parts.{nesting}
use Rattle.js_grammar.specs.Derivations.{Lexeme, Derives, beginning, Prefix}
use Rattle.js_grammar.specs.Answers.{Text, limit, given, before, MayInsert, Reading, start, next, insert, Accepted, Unexpected, TooDeep}
use Rattle.js_grammar.specs.Laws.{OneAnswer, FirstRefused, FirstTooDeep}
use Rattle.js_grammar.proofs.Derived.{unique}

-- from one point of the reading to a later one
data Path (text : Text) : ℕ → List Lexeme → ℕ → List Lexeme → Type 0 where
  arrived : {i : ℕ} {ws : List Lexeme} → Path text i ws i ws
  by_next : {i j : ℕ} {ws us : List Lexeme} {s : List Symbol} {vs : List Tree} → Derives (beginning text.start) [] (ws ++ given text i ∷ []) s vs → nesting s ≤ limit → (s ≡ [] → ⊥) → Path text (i + 1) (ws ++ given text i ∷ []) j us → Path text i ws j us
  by_insert : {i j : ℕ} {ws us : List Lexeme} → (Prefix text.start (ws ++ given text i ∷ []) → ⊥) → MayInsert text ws i → Prefix text.start (ws ++ before text i ∷ []) → Path text i (ws ++ before text i ∷ []) j us → Path text i ws j us

beyond : {text : Text} {i j k : ℕ} {ws us zs : List Lexeme} → Path text i ws j us → Path text j us k zs → Path text i ws k zs
beyond arrived q = q
beyond (by_next d r n p) q = by_next d r n (beyond p q)
beyond (by_insert n m f p) q = by_insert n m f (beyond p q)

-- of two points of the reading one comes first
from_start : {text : Text} {i : ℕ} {ws : List Lexeme} → Reading text i ws → Path text 0 [] i ws
from_start start = arrived
from_start (next r d l n) = beyond (from_start r) (by_next d l n arrived)
from_start (insert r n m f) = beyond (from_start r) (by_insert n m f arrived)

fork : {text : Text} {i j k : ℕ} {ws us zs : List Lexeme} → Path text i ws j us → Path text i ws k zs → Path text j us k zs ⊎ Path text k zs j us
fork arrived q = inl q
fork p arrived = inr p
fork (by_next d r n p) (by_next d' r' n' q) = fork p q
fork (by_insert n m f p) (by_insert n' m' f' q) = fork p q
fork (by_next d r n p) (by_insert n' m' f' q) = absurd (n' (_, _, d))
fork (by_insert n m f p) (by_next d' r' n' q) = absurd (n (_, _, d'))

-- where the reading ends nothing goes on
Ends : Text → ℕ → List Lexeme → Type 0
Ends text i ws = (j : ℕ) (us : List Lexeme) → Path text i ws j us → (i ≡ j) × (ws ≡ us)

unexpected_ends : (text : Text) (i : ℕ) (ws : List Lexeme) → (Prefix text.start (ws ++ given text i ∷ []) → ⊥) → (MayInsert text ws i → Prefix text.start (ws ++ before text i ∷ []) → ⊥) → Ends text i ws
unfolding Ends
unexpected_ends text i ws n m j us arrived = (refl, refl)
unexpected_ends text i ws n m j us (by_next d r s p) = absurd (n (_, _, d))
unexpected_ends text i ws n m j us (by_insert a b c p) = absurd (m b c)

deep_ends : (text : Text) (i : ℕ) (ws : List Lexeme) (s : List Symbol) (vs : List Tree) → Derives (beginning text.start) [] (ws ++ given text i ∷ []) s vs → limit < nesting s → Ends text i ws
unfolding Ends
deep_ends text i ws s vs d l j us arrived = (refl, refl)
deep_ends text i ws s vs d l j us (by_next e r n p) = absurd (omega (arith, ap nesting (unique d e).0))
deep_ends text i ws s vs d l j us (by_insert a b c p) = absurd (a (_, _, d))

whole_ends : (text : Text) (i : ℕ) (ws : List Lexeme) (vs : List Tree) → Derives (beginning text.start) [] (ws ++ given text i ∷ []) [] vs → Ends text i ws
unfolding Ends
whole_ends text i ws vs d j us arrived = (refl, refl)
whole_ends text i ws vs d j us (by_next e r n p) = absurd (n (sym (unique d e).0))
whole_ends text i ws vs d j us (by_insert a b c p) = absurd (a (_, _, d))

same_end : {text : Text} {i j : ℕ} {ws us : List Lexeme} → Reading text i ws → Reading text j us → Ends text i ws → Ends text j us → (i ≡ j) × (ws ≡ us)
unfolding Ends
same_end {i = i} {j = j} {ws = ws} {us = us} r r' e e' = elim (fork (from_start r) (from_start r')) [ inl p ↦ e j us p | inr p ↦ let (a, b) = e' i ws p in (sym a, sym b) ]

move : (text : Text) {i j : ℕ} {ws us : List Lexeme} → (i ≡ j) × (ws ≡ us) → (P : ℕ → List Lexeme → Type 0) → P j us → P i ws
move text {i = i} {us = us} (a, b) P h = subst (λ z. P i z) (sym b) (subst (λ k. P k us) (sym a) h)

pub one_answer : OneAnswer
one_answer text (Unexpected i) (Unexpected j) (ws, r, n, m) (us, r', n', m') =
    ap Unexpected (same_end r r' (unexpected_ends text i ws n m) (unexpected_ends text j us n' m')).0
one_answer text (Unexpected i) (TooDeep j) (ws, r, n, m) (us, s', vs', r', d', l') =
    absurd (n (move text (same_end r r' (unexpected_ends text i ws n m) (deep_ends text j us s' vs' d' l')) (λ k z. Prefix text.start (z ++ given text k ∷ [])) (s', vs', d')))
one_answer text (Unexpected i) (Accepted t') (ws, r, n, m) (j, us, r', e', d') =
    absurd (n (move text (same_end r r' (unexpected_ends text i ws n m) (whole_ends text j us _ d')) (λ k z. Prefix text.start (z ++ given text k ∷ [])) ([], _, d')))
one_answer text (TooDeep i) (Unexpected j) (ws, s, vs, r, d, l) (us, r', n', m') =
    absurd (n' (move text (same_end r' r (unexpected_ends text j us n' m') (deep_ends text i ws s vs d l)) (λ k z. Prefix text.start (z ++ given text k ∷ [])) (s, vs, d)))
one_answer text (TooDeep i) (TooDeep j) (ws, s, vs, r, d, l) (us, s', vs', r', d', l') =
    ap TooDeep (same_end r r' (deep_ends text i ws s vs d l) (deep_ends text j us s' vs' d' l')).0
one_answer text (TooDeep i) (Accepted t') (ws, s, vs, r, d, l) (j, us, r', e', d') =
    let d'' : Derives (beginning text.start) [] (ws ++ given text i ∷ []) [] (t' ∷ []) = move text (same_end r r' (deep_ends text i ws s vs d l) (whole_ends text j us _ d')) (λ k z. Derives (beginning text.start) [] (z ++ given text k ∷ []) [] (t' ∷ [])) d' in
    absurd (omega (arith, ap nesting (unique d d'').0))
one_answer text (Accepted t) (Unexpected j) (i, ws, r, e, d) (us, r', n', m') =
    absurd (n' (move text (same_end r' r (unexpected_ends text j us n' m') (whole_ends text i ws _ d)) (λ k z. Prefix text.start (z ++ given text k ∷ [])) ([], _, d)))
one_answer text (Accepted t) (TooDeep j) (i, ws, r, e, d) (us, s', vs', r', d', l') =
    let d'' : Derives (beginning text.start) [] (us ++ given text j ∷ []) [] (t ∷ []) = move text (same_end r' r (deep_ends text j us s' vs' d' l') (whole_ends text i ws _ d)) (λ k z. Derives (beginning text.start) [] (z ++ given text k ∷ []) [] (t ∷ [])) d in
    absurd (omega (arith, ap nesting (unique d' d'').0))
one_answer text (Accepted t) (Accepted t') (i, ws, r, e, d) (j, us, r', e', d') =
    let d'' : Derives (beginning text.start) [] (ws ++ given text i ∷ []) [] (t' ∷ []) = move text (same_end r r' (whole_ends text i ws _ d) (whole_ends text j us _ d')) (λ k z. Derives (beginning text.start) [] (z ++ given text k ∷ []) [] (t' ∷ [])) d' in
    let h : t ∷ [] ≡ t' ∷ [] = (unique d d'').1 in cc

forth : {text : Text} {i j : ℕ} {ws us : List Lexeme} → Path text i ws j us → i ≤ j
forth arrived = le_refl _
forth (by_next d r n p) = omega (arith, forth p)
forth (by_insert n m f p) = forth p

last : (j i : ℕ) → j ≤ i + 1 → (j ≤ i) ⊎ (j ≡ i + 1)
last j i h = grind arith

-- the fronts of a reading are readings
fronts : {text : Text} {i : ℕ} {ws : List Lexeme} → Reading text i ws → (j : ℕ) → j ≤ i → (us : List Lexeme) × Reading text j us
fronts {text = text} start j h = ([], subst (λ k. Reading text k []) (omega arith) start)
fronts {text = text} {ws = ws} (next {i = i} {ws = zs} r d l n) j h = elim (last j i h) [
  | inl lt ↦ fronts r j lt
  | inr is ↦ (zs ++ given text i ∷ [], subst (λ k. Reading text k (zs ++ given text i ∷ [])) (sym is) (next r d l n))
]
fronts (insert r n m f) j h = fronts r j h

stays_there : (text : Text) (i : ℕ) (ws : List Lexeme) → (Prefix text.start (ws ++ given text i ∷ []) → ⊥) → (MayInsert text ws i → Prefix text.start (ws ++ before text i ∷ []) → ⊥) → (j : ℕ) (us : List Lexeme) → Path text i ws j us → i ≡ j
unfolding Ends
stays_there text i ws n m j us p = (unexpected_ends text i ws n m j us p).0

pub first_refused : FirstRefused
first_refused text i (ws, r, n, m) = (
  fronts r,
  λ j us h r'. elim (fork (from_start r) (from_start r')) [
    | inl p ↦ absurd (omega (arith, (stays_there text i ws n m j us p)))
    | inr p ↦ absurd (omega (arith, forth p))
  ],
)

deep_there : (text : Text) (i : ℕ) (ws : List Lexeme) (s : List Symbol) (vs : List Tree) → Derives (beginning text.start) [] (ws ++ given text i ∷ []) s vs → limit < nesting s → (j : ℕ) (us : List Lexeme) → Path text i ws j us → i ≡ j
unfolding Ends
deep_there text i ws s vs d l j us p = (deep_ends text i ws s vs d l j us p).0

pub first_too_deep : FirstTooDeep
first_too_deep text i (ws, s, vs, r, d, l) = (
  fronts r,
  λ j us h r'. elim (fork (from_start r) (from_start r')) [
    | inl p ↦ absurd (omega (arith, (deep_there text i ws s vs d l j us p)))
    | inr p ↦ absurd (omega (arith, forth p))
  ],
)
