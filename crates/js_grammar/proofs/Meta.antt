-- What a text ends in, step by step, is its answer by derivations.
use Rattle.std.proofs.Common.{◌≡◌, ◌≢◌, ℕ, true, false, List, [], ◌∷◌, ◌++◌, ◌+◌, ◌≤◌, ◌⊎◌, refl, sym, subst, inl, inr}
use Rattle.js_tokens.specs.declared.word.Word.{Word}
use Rattle.js_tokens.specs.declared.word.Word.TheVariants as w
use Rattle.js_tree.specs.Trees.{Tree}
use Rattle.js_grammar.specs.declared.sight.Seen.TheVariants as seen
use Rattle.js_grammar.specs.declared.sight.Sight.{Sight}
use Rattle.js_grammar.specs.declared.symbol.Build.{Build}
use Rattle.js_grammar.specs.declared.symbol.Build.TheVariants as build
use Rattle.js_grammar.specs.declared.symbol.Nonterminal.{Nonterminal}
use Rattle.js_grammar.specs.declared.symbol.Open.{Open}
use Rattle.js_grammar.specs.declared.symbol.Start.{Start}
use Rattle.js_grammar.specs.declared.symbol.Start.TheVariants.{Program, Handler}
use Rattle.js_grammar.specs.declared.symbol.Symbol.{Symbol}
use Rattle.js_grammar.specs.declared.symbol.Symbol.TheVariants.{Word as T, End, Semicolon, FreeSemicolon, Never, Part, Build as Makes, Leave}
use Rattle.js_grammar.specs.Sights.{may_insert}
use Rattle.js_grammar.specs.Parts.{nesting}
use Rattle.js_grammar.specs.Grammar.{produce}
use Rattle.js_grammar.specs.Derivations.{Lexeme, Given, Inserted, look, built, Derives, so_far, token, the_end, semicolon, free_semicolon, inserted, free_inserted, part, makes, leaves, beginning, Prefix}
use Rattle.js_grammar.specs.Answers.{Text, limit, given, before, MayInsert, Reading, start, next, insert, Outcome, Unexpected, Answer}
use Rattle.js_grammar.specs.Ends.{at, Ends, EndIsAnswer}
use Rattle.js_grammar.specs.Ends as ends
use Rattle.js_grammar.proofs.Derived.{compose, unique, from_beginning}
use Rattle.js_grammar.proofs.Agree.{Committed, blank, agree, stays}
use Rattle.js_grammar.proofs.Guarded.{Guarded, loosen, behind, guarded}

-- what cannot be derived
no_token : {v : Word} {u : Sight} {s s' : List Symbol} {vs vs' : List Tree} {us : List Lexeme} → u.seen ≢ seen.Word v → Derives (T v ∷ s) vs (Given u ∷ us) s' vs' → ⊥
no_token f (token g d) = f g

no_end : {u : Sight} {s s' : List Symbol} {vs vs' : List Tree} {us : List Lexeme} → u.seen ≢ seen.End → Derives (End ∷ s) vs (Given u ∷ us) s' vs' → ⊥
no_end f (the_end g d) = f g

no_semicolon : {u : Sight} {s s' : List Symbol} {vs vs' : List Tree} {us : List Lexeme} → u.seen ≢ seen.Word w.Semicolon → Derives (Semicolon ∷ s) vs (Given u ∷ us) s' vs' → ⊥
no_semicolon f (semicolon g d) = f g

no_free : {u : Sight} {s s' : List Symbol} {vs vs' : List Tree} {us : List Lexeme} → u.seen ≢ seen.Word w.Semicolon → Derives (FreeSemicolon ∷ s) vs (Given u ∷ us) s' vs' → ⊥
no_free f (free_semicolon g d) = f g

no_inserted : {v : Word} {b f : ℕ} {s s' : List Symbol} {vs vs' : List Tree} {us : List Lexeme} → Derives (T v ∷ s) vs (Inserted b f ∷ us) s' vs' → ⊥
no_inserted d = elim d [ ]

no_inserted_end : {b f : ℕ} {s s' : List Symbol} {vs vs' : List Tree} {us : List Lexeme} → Derives (End ∷ s) vs (Inserted b f ∷ us) s' vs' → ⊥
no_inserted_end d = elim d [ ]

no_never : {u : Lexeme} {s s' : List Symbol} {vs vs' : List Tree} {us : List Lexeme} → Derives (Never ∷ s) vs (u ∷ us) s' vs' → ⊥
no_never d = elim d [ ]

un_part : {x : Nonterminal} {u : Lexeme} {s s' : List Symbol} {vs vs' : List Tree} {us : List Lexeme} → Derives (Part x ∷ s) vs (u ∷ us) s' vs' → Derives (produce x s (look u) vs ++ s) vs (u ∷ us) s' vs'
un_part (part d) = d

un_makes : {b : Build} {u : Lexeme} {s s' : List Symbol} {vs vs' : List Tree} {us : List Lexeme} → Derives (Makes b ∷ s) vs (u ∷ us) s' vs' → Derives s (built b (look u) vs) (u ∷ us) s' vs'
un_makes (makes d) = d

un_leaves : {o : Open} {u : Lexeme} {s s' : List Symbol} {vs vs' : List Tree} {us : List Lexeme} → Derives (Leave o ∷ s) vs (u ∷ us) s' vs' → Derives s vs (u ∷ us) s' vs'
un_leaves (leaves d) = d

-- a making sees of a semicolon that is inserted what it sees of the token
same_built : (b : Build) (u : Sight) (vs : List Tree) → built b u vs ≡ built b (blank u.before u.from) vs
same_built (build.Node q from count) u vs = refl
same_built (build.Root q) u [] = refl
same_built (build.Root q) u (v ∷ vs) = refl
same_built (build.Group count) u vs = refl
same_built build.Add u [] = refl
same_built build.Add u (v ∷ []) = refl
same_built build.Add u (v ∷ ts ∷ vs) = refl
same_built build.Missing u vs = refl
same_built (build.Text t) u vs = refl

-- What the reading knows at a token: the words so far, from where they led to, and that the steps since then were those which the token
-- forces, and which a semicolon before it would force too, or the token is read first.
pub record At (t : Text) (s : List Symbol) (vs : List Tree) (i : ℕ) : Type 0 where
  pub ws : List Lexeme
  pub s0 : List Symbol
  pub vs0 : List Tree
  pub reading : Reading t i ws
  pub origin : Derives (beginning t.start) [] ws s0 vs0
  pub here : (us : List Lexeme) (s' : List Symbol) (vs' : List Tree) → Derives s0 vs0 (given t i ∷ us) s' vs' → Derives s vs (given t i ∷ us) s' vs'
  pub there : (us : List Lexeme) (s' : List Symbol) (vs' : List Tree) → Derives s vs (given t i ∷ us) s' vs' → Derives s0 vs0 (given t i ∷ us) s' vs'
  pub silent : may_insert (at t i) ≡ true → Committed (at t i).seen s
      ⊎ (((us : List Lexeme) (s' : List Symbol) (vs' : List Tree) → Derives s0 vs0 (before t i ∷ us) s' vs' → Derives s vs (before t i ∷ us) s' vs')
      × ((us : List Lexeme) (s' : List Symbol) (vs' : List Tree) → Derives s vs (before t i ∷ us) s' vs' → Derives s0 vs0 (before t i ∷ us) s' vs'))
  pub still : (z : List Symbol) → s0 ≡ FreeSemicolon ∷ z → s ≡ FreeSemicolon ∷ z
  pub guard : Guarded false s ⊎ (Guarded true s × (s0 ≡ s) × (vs0 ≡ vs))

fresh : {t : Text} {s : List Symbol} {vs : List Tree} {i : ℕ} (ws : List Lexeme) → Reading t i ws → Derives (beginning t.start) [] ws s vs → Guarded true s → At t s vs i
fresh {s = s} {vs = vs} ws r d g = record { ws = ws; s0 = s; vs0 = vs; reading = r; origin = d; here = λ us s' vs' e. e; there = λ us s' vs' e. e; silent = λ m. inr (λ us s' vs' e. e, λ us s' vs' e. e); still = λ z e. e; guard = inr (g, refl, refl) }

reached : {t : Text} {s s1 : List Symbol} {vs vs1 : List Tree} {i : ℕ} (a : At t s vs i) → Derives s vs (given t i ∷ []) s1 vs1 → Derives (beginning t.start) [] (a.ws ++ given t i ∷ []) s1 vs1
reached a d = compose a.origin (a.there [] _ _ d)

forward : {t : Text} {s s1 : List Symbol} {vs vs1 : List Tree} {i : ℕ} (a : At t s vs i) → Derives s vs (given t i ∷ []) s1 vs1 → nesting s1 ≤ limit → (s1 ≡ [] → ⊥) → Guarded true s1 → At t s1 vs1 (i + 1)
forward {t = t} {i = i} a d room n g = fresh (a.ws ++ given t i ∷ []) (next a.reading (reached a d) room n) (reached a d) g

-- the guard of what stands behind a symbol
guard_true : {t : Text} {s : List Symbol} {vs : List Tree} {i : ℕ} → At t s vs i → Guarded true s
guard_true {s = s} a = elim a.guard [ inl g ↦ loosen s g | inr g ↦ g.0 ]

no_more : {t : Text} {s : List Symbol} {vs : List Tree} {i : ℕ} (a : At t s vs i) → ((s' : List Symbol) (vs' : List Tree) → Derives s vs (given t i ∷ []) s' vs' → ⊥) → Prefix t.start (a.ws ++ given t i ∷ []) → ⊥
no_more {t = t} {i = i} a n p = let (s', vs', d) = from_beginning t.start a.ws (given t i ∷ []) a.origin p in n s' vs' (a.here [] s' vs' d)

no_insert : {t : Text} {s : List Symbol} {vs : List Tree} {i : ℕ} (a : At t s vs i) → (Committed (at t i).seen s → ⊥) → ((z : List Symbol) → s ≡ FreeSemicolon ∷ z → ⊥) →
    ((s' : List Symbol) (vs' : List Tree) → Derives s vs (before t i ∷ []) s' vs' → ⊥) → MayInsert t a.ws i → Prefix t.start (a.ws ++ before t i ∷ []) → ⊥
no_insert {t = t} {s = s} {vs = vs} {i = i} a c f n m p =
    let (s', vs', d) = from_beginning t.start a.ws (before t i ∷ []) a.origin p in
    elim m [
      | inl h ↦ elim (a.silent h) [ inl k ↦ c k | inr k ↦ n s' vs' (k.0 [] s' vs' d) ]
      | inr k ↦ f k.0 (a.still k.0 (unique a.origin k.2).0)
    ]

stuck : {t : Text} {s : List Symbol} {vs : List Tree} {i : ℕ} (a : At t s vs i) → (Committed (at t i).seen s → ⊥) → ((z : List Symbol) → s ≡ FreeSemicolon ∷ z → ⊥) →
    ((s' : List Symbol) (vs' : List Tree) → Derives s vs (given t i ∷ []) s' vs' → ⊥) → ((s' : List Symbol) (vs' : List Tree) → Derives s vs (before t i ∷ []) s' vs' → ⊥) → Answer t (Unexpected i)
stuck a c f n m = (a.ws, a.reading, no_more a n, no_insert a c f m)

insertion : {t : Text} {s : List Symbol} {vs : List Tree} {i : ℕ} → (at t i).seen ≢ seen.Word w.Semicolon → may_insert (at t i) ≡ true → At t (Semicolon ∷ s) vs i → At t s vs i
insertion {t = t} {s = s} {vs = vs} {i = i} f m a =
    elim (a.silent m) [
      | inl h ↦ absurd h
      | inr k ↦
          let d : Derives (beginning t.start) [] (a.ws ++ before t i ∷ []) s vs = compose a.origin (k.1 [] _ _ (inserted so_far)) in
          fresh (a.ws ++ before t i ∷ []) (insert a.reading (no_more a (λ s' vs' e. no_semicolon f e)) (inl m) (s, vs, d)) d (loosen s (behind_semicolon a))
    ]
  where
    behind_semicolon : {t : Text} {s : List Symbol} {vs : List Tree} {i : ℕ} → At t (Semicolon ∷ s) vs i → Guarded false s
    behind_semicolon a = guard_true a

free_insertion : {t : Text} {s : List Symbol} {vs : List Tree} {i : ℕ} → (at t i).seen ≢ seen.Word w.Semicolon → At t (FreeSemicolon ∷ s) vs i → At t s vs i
free_insertion {t = t} {s = s} {vs = vs} {i = i} f a =
    elim a.guard [
      | inl h ↦ absurd h
      | inr k ↦
          let o : Derives (beginning t.start) [] a.ws (FreeSemicolon ∷ s) vs = subst (λ z. Derives (beginning t.start) [] a.ws z vs) k.1 (subst (λ z. Derives (beginning t.start) [] a.ws a.s0 z) k.2 a.origin) in
          let d : Derives (beginning t.start) [] (a.ws ++ before t i ∷ []) s vs = compose o (free_inserted so_far) in
          fresh (a.ws ++ before t i ∷ []) (insert a.reading (no_more a (λ s' vs' e. no_free f e)) (inr (s, vs, o)) (s, vs, d)) d (loosen s k.0)
    ]

expansion : {t : Text} {x : Nonterminal} {s : List Symbol} {vs : List Tree} {i : ℕ} → At t (Part x ∷ s) vs i → At t (produce x s (at t i) vs ++ s) vs i
expansion {t = t} {x = x} {s = s} {vs = vs} {i = i} a = record {
  ws = a.ws;
  s0 = a.s0;
  vs0 = a.vs0;
  reading = a.reading;
  origin = a.origin;
  here = λ us s' vs' d. un_part (a.here us s' vs' d);
  there = λ us s' vs' d. a.there us s' vs' (part d);
  silent = λ m. elim (a.silent m) [
    | inl h ↦ inl (stays x s (at t i) vs h)
    | inr k ↦ elim (agree x s (at t i) vs m) [
      | inl e ↦ inr (
        λ us s' vs' d. subst (λ p. Derives (p ++ s) vs (before t i ∷ us) s' vs') (sym e) (un_part (k.0 us s' vs' d)),
        λ us s' vs' d. k.1 us s' vs' (part (subst (λ p. Derives (p ++ s) vs (before t i ∷ us) s' vs') e d)),
      )
      | inr c ↦ inl c
    ]
  ];
  still = λ z e. absurd (cc (a.still z e));
  guard = inl (guarded x s (at t i) vs (guard_true a));
}

making : {t : Text} {b : Build} {s : List Symbol} {vs : List Tree} {i : ℕ} → At t (Makes b ∷ s) vs i → At t s (built b (at t i) vs) i
making {t = t} {b = b} {s = s} {vs = vs} {i = i} a = record {
  ws = a.ws;
  s0 = a.s0;
  vs0 = a.vs0;
  reading = a.reading;
  origin = a.origin;
  here = λ us s' vs' d. un_makes (a.here us s' vs' d);
  there = λ us s' vs' d. a.there us s' vs' (makes d);
  silent = λ m. elim (a.silent m) [
    | inl h ↦ inl h
    | inr k ↦ inr (
      λ us s' vs' d. subst (λ z. Derives s z (before t i ∷ us) s' vs') (sym (same_built b (at t i) vs)) (un_makes (k.0 us s' vs' d)),
      λ us s' vs' d. k.1 us s' vs' (makes (subst (λ z. Derives s z (before t i ∷ us) s' vs') (same_built b (at t i) vs) d)),
    )
  ];
  still = λ z e. absurd (cc (a.still z e));
  guard = inl (guard_true a);
}

leaving : {t : Text} {o : Open} {s : List Symbol} {vs : List Tree} {i : ℕ} → At t (Leave o ∷ s) vs i → At t s vs i
leaving a = record {
  ws = a.ws;
  s0 = a.s0;
  vs0 = a.vs0;
  reading = a.reading;
  origin = a.origin;
  here = λ us s' vs' d. un_leaves (a.here us s' vs' d);
  there = λ us s' vs' d. a.there us s' vs' (leaves d);
  silent = λ m. elim (a.silent m) [ inl h ↦ absurd h | inr k ↦ inr (λ us s' vs' d. un_leaves (k.0 us s' vs' d), λ us s' vs' d. k.1 us s' vs' (leaves d)) ];
  still = λ z e. absurd (cc (a.still z e));
  guard = inl (guard_true a);
}

-- something is still to be read
some : {t : Text} {s : List Symbol} {vs : List Tree} {i : ℕ} {o : Outcome} → Ends t s vs i o → s ≡ [] → ⊥
some (ends.accepts e) h = cc
some (ends.reads f room d) h = cc
some (ends.deep f r) h = cc
some (ends.refused f) h = cc
some (ends.goes_on f) h = cc
some ends.never h = cc
some (ends.semicolon f room d) h = cc
some (ends.deep_semicolon f r) h = cc
some (ends.inserted f m d) h = cc
some (ends.missing f m) h = cc
some (ends.free_semicolon f room d) h = cc
some (ends.deep_free_semicolon f r) h = cc
some (ends.free_inserted f d) h = cc
some (ends.expands d) h = cc
some (ends.makes d) h = cc
some (ends.leaves d) h = cc

-- what the reading ends in is the answer
answers : {t : Text} {s : List Symbol} {vs : List Tree} {i : ℕ} {o : Outcome} → Ends t s vs i o → At t s vs i → Answer t o
answers (ends.accepts {i = i} e) a = (i, a.ws, a.reading, e, reached a (the_end e so_far))
answers (ends.reads {v = v} {s = s} f room d) a = answers d (forward a (token f so_far) room (some d) (behind v true s (guard_true a)))
answers (ends.deep {s = s} {vs = vs} f r) a = (a.ws, s, vs, a.reading, reached a (token f so_far), r)
answers (ends.refused f) a = stuck a f (λ z e. cc) (λ s' vs' d. no_token f d) (λ s' vs' d. no_inserted d)
answers (ends.goes_on f) a = stuck a (λ c. c) (λ z e. cc) (λ s' vs' d. no_end f d) (λ s' vs' d. no_inserted_end d)
answers ends.never a = stuck a (λ c. c) (λ z e. cc) (λ s' vs' d. no_never d) (λ s' vs' d. no_never d)
answers (ends.semicolon {s = s} f room d) a = answers d (forward a (semicolon f so_far) room (some d) (loosen s (guard_true a)))
answers (ends.deep_semicolon {s = s} {vs = vs} f r) a = (a.ws, s, vs, a.reading, reached a (semicolon f so_far), r)
answers (ends.inserted f m d) a = answers d (insertion f m a)
answers (ends.missing f m) a = (a.ws, a.reading, no_more a (λ s' vs' d. no_semicolon f d), λ n. not_there m a n)
  where
    not_there : {t : Text} {s : List Symbol} {vs : List Tree} {i : ℕ} → may_insert (at t i) ≡ false → (a : At t (Semicolon ∷ s) vs i) → MayInsert t a.ws i → Prefix t.start (a.ws ++ before t i ∷ []) → ⊥
    not_there m a n = elim n [ inl h ↦ cc | inr k ↦ cc (a.still k.0 (unique a.origin k.2).0) ]
answers (ends.free_semicolon {s = s} f room d) a = answers d (forward a (free_semicolon f so_far) room (some d) (loosen s (guard_true a)))
answers (ends.deep_free_semicolon {s = s} {vs = vs} f r) a = (a.ws, s, vs, a.reading, reached a (free_semicolon f so_far), r)
answers (ends.free_inserted f d) a = answers d (free_insertion f a)
answers (ends.expands d) a = answers d (expansion a)
answers (ends.makes d) a = answers d (making a)
answers (ends.leaves d) a = answers d (leaving a)

guarded_beginning : (start : Start) → Guarded true (beginning start)
guarded_beginning Program = tt
guarded_beginning Handler = tt

pub answer : EndIsAnswer
answer text o d = answers d (fresh [] start so_far (guarded_beginning text.start))
