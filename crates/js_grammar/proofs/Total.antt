-- Each text has an answer: at each point of its reading there is a step, and the steps between two words come to an end.
use Rattle.std.proofs.Common.{◌≡◌, ◌≢◌, ℕ, zero, suc, ◌+◌, ◌-◌, ◌<◌, ◌≤◌, Bool, true, false, List, [], ◌∷◌, ◌++◌, ◌||◌, ◌&&◌, ◌⊎◌, length, refl, sym, ap, subst, inl, inr, arith, rules}
use Rattle.std.specs.Prelude.{nat_le, nat_lt, not, if◌then◌else◌}
use Rattle.std.proofs.lemmas.Bool.{ltb-true, leb-true, eqb-true, and_parts}
use Rattle.std.proofs.lemmas.List.{drop_all}
use denote.Enum.Bare.{sameb, same_true, same_false}
use Rattle.js_tokens.specs.declared.word.Word.{Word}
use Rattle.js_tokens.specs.declared.word.Word.TheVariants as w
use Rattle.js_tokens.specs.contracts.word.Word.{the_type}
use Rattle.js_tree.specs.Trees.{Tree, Nil, Cons}
use Rattle.js_grammar.specs.declared.sight.Seen.{Seen}
use Rattle.js_grammar.specs.declared.sight.Seen.TheVariants as seen
use Rattle.js_grammar.specs.declared.sight.Sight.{Sight}
use Rattle.js_grammar.specs.declared.symbol.Build.{Build}
use Rattle.js_grammar.specs.declared.symbol.Build.TheVariants as build
use Rattle.js_grammar.specs.declared.symbol.Nonterminal.{Nonterminal}
use Rattle.js_grammar.specs.declared.symbol.Nonterminal.TheVariants as n
use Rattle.js_grammar.specs.declared.symbol.Start.{Start}
use Rattle.js_grammar.specs.declared.symbol.Start.TheVariants.{Program, Handler}
use Rattle.js_grammar.specs.declared.symbol.Symbol.{Symbol}
use Rattle.js_grammar.specs.declared.symbol.Symbol.TheVariants.{Word as T, End, Semicolon, FreeSemicolon, Never, Part, Build as Makes, Leave}
use Rattle.js_grammar.specs.Sights.{may_insert, seen_at, end_before}
use Rattle.js_grammar.specs.Parts.{nesting}
use Rattle.js_grammar.specs.Grammar.{produce}
use Rattle.js_grammar.specs.Derivations.{built, grouped, beginning}
use Rattle.js_grammar.specs.Answers.{Text, limit, Outcome, Unexpected, TooDeep, Accepted}
use Rattle.js_grammar.specs.Laws.{EachHasOneAnswer}
use Rattle.js_grammar.specs.Ends.{at, Ends}
use Rattle.js_grammar.specs.Ends as ends
use Rattle.js_grammar.proofs.Meta.{answer}
use Rattle.js_grammar.proofs.One.{one_answer}
use Rattle.js_grammar.specs.inner.Ranks.{Balanced, taken, left, needs, stops, reads_a_word, rank, has_word, front}
use Rattle.js_grammar.proofs.Sound.{balances, sound}

left_more : (b : Build) (c more : ℕ) → taken b ≤ c → left b c + more ≡ left b (c + more)
left_more (build.Node q from k) c more l = omega arith
left_more (build.Root q) c more l = refl
left_more (build.Group k) c more l = omega arith
left_more build.Add c more l = omega arith
left_more build.Missing c more l = omega arith
left_more (build.Text t) c more l = omega arith

or_parts : (a b : Bool) → (a || b) ≡ true → (a ≡ true) ⊎ (b ≡ true)
or_parts true b e = inl refl
or_parts false b e = inr e

-- symbols in front of what is to be read
joined : (p s : List Symbol) (c d more : ℕ) → balances p c d ≡ true → Balanced s (d + more) → Balanced (p ++ s) (c + more)
joined [] s c d more e h = subst (Balanced s) (ap (λ n. n + more) (sym (eqb-true c d e))) h
joined (Makes b ∷ p) s c d more e h =
    let parts = and_parts (nat_le (taken b) c) (balances p (left b c) d) e in
    let enough : taken b ≤ c = leb-true (taken b) c parts.0 in
    (omega arith, subst (Balanced (p ++ s)) (left_more b c more enough) (joined p s (left b c) d more parts.1 h))
joined (Part x ∷ p) s c d more e h = elim (or_parts (stops x) (nat_le (needs x) c && balances p (c - needs x + 1) d) e) [
  | inl stop ↦ inl stop
  | inr goes ↦
      let parts = and_parts (nat_le (needs x) c) (balances p (c - needs x + 1) d) goes in
      let enough : needs x ≤ c = leb-true (needs x) c parts.0 in
      let same : (c - needs x + 1) + more ≡ (c + more) - needs x + 1 = omega arith in
      inr (omega arith, subst (Balanced (p ++ s)) same (joined p s (c - needs x + 1) d more parts.1 h))
]
joined (Never ∷ p) s c d more e h = tt
joined (End ∷ p) s c d more e h = absurd (cc)
joined (T v ∷ p) s c d more e h = joined p s c d more e h
joined (Semicolon ∷ p) s c d more e h = joined p s c d more e h
joined (FreeSemicolon ∷ p) s c d more e h = joined p s c d more e h
joined (Leave o ∷ p) s c d more e h = joined p s c d more e h

-- what a part that stops is
stopped : (x : Nonterminal) (s : List Symbol) (u : Sight) (vs : List Tree) (c : ℕ) → stops x ≡ true → Balanced (produce x s u vs ++ s) c
stopped n.Accessed s u vs c e = (omega arith, inr (omega arith, tt))
stopped x s u vs c e = absurd (cc)

pub opened : (x : Nonterminal) (s : List Symbol) (u : Sight) (vs : List Tree) (c : ℕ) → Balanced (Part x ∷ s) c → Balanced (produce x s u vs ++ s) c
opened x s u vs c (inl stop) = stopped x s u vs c stop
opened x s u vs c (inr goes) =
    let p = produce x s u vs in
    let enough : needs x ≤ c = goes.0 in
    let behind : c - needs x + 1 ≡ 1 + (c - needs x) = omega arith in
    let whole : needs x + (c - needs x) ≡ c = omega arith in
    subst (Balanced (p ++ s)) whole (joined p s (needs x) 1 (c - needs x) (sound x s u vs).balanced (subst (Balanced s) behind goes.1))

if_below : (b : Bool) (r m k : ℕ) → m ≤ k → (if b then r else r + m) ≤ (if b then r else r + k)
if_below true r m k l = omega arith
if_below false r m k l = omega arith

if_plus : (b : Bool) (r m k : ℕ) → (if b then r else r + (m + k)) ≤ (if b then r else r + m) + k
if_plus true r m k = omega arith
if_plus false r m k = omega arith

front_join : (p s : List Symbol) → front (p ++ s) ≤ front p + front s
front_join [] s = omega arith
front_join (T v ∷ p) s = omega arith
front_join (End ∷ p) s = omega arith
front_join (Never ∷ p) s = omega arith
front_join (Part x ∷ p) s =
    let rest : front (p ++ s) ≤ front p + front s = front_join p s in
    omega (arith, if_below (reads_a_word x) (rank x) (front (p ++ s)) (front p + front s) rest, if_plus (reads_a_word x) (rank x) (front p) (front s))
front_join (Makes b ∷ p) s = omega (arith, front_join p s)
front_join (Leave o ∷ p) s = omega (arith, front_join p s)
front_join (Semicolon ∷ p) s = omega (arith, front_join p s)
front_join (FreeSemicolon ∷ p) s = omega (arith, front_join p s)

front_part : (b : Bool) (r m k : ℕ) (q : Bool) → (b || q) ≡ true → (q ≡ true → m ≡ k) → (if b then r else r + m) ≡ (if b then r else r + k)
front_part true r m k q e f = refl
front_part false r m k q e f = ap (λ z. r + z) (f e)

front_word : (p s : List Symbol) → has_word p ≡ true → front (p ++ s) ≡ front p
front_word [] s e = absurd (cc)
front_word (T v ∷ p) s e = refl
front_word (End ∷ p) s e = refl
front_word (Never ∷ p) s e = refl
front_word (Part x ∷ p) s e = front_part (reads_a_word x) (rank x) (front (p ++ s)) (front p) (has_word p) e (front_word p s)
front_word (Makes b ∷ p) s e = ap (λ z. 1 + z) (front_word p s e)
front_word (Leave o ∷ p) s e = ap (λ z. 1 + z) (front_word p s e)
front_word (Semicolon ∷ p) s e = ap (λ z. 1 + z) (front_word p s e)
front_word (FreeSemicolon ∷ p) s e = ap (λ z. 1 + z) (front_word p s e)

-- what is read in the place of a part is in front of fewer ranks
lighter_by : (b : Bool) (r whole m k : ℕ) (q : Bool) → m < r → (not b || q) ≡ true → whole ≤ m + k → (q ≡ true → whole ≡ m) → whole < (if b then r else r + k)
lighter_by true r whole m k q l e j f = let same : whole ≡ m = f e in omega arith
lighter_by false r whole m k q l e j f = omega arith

pub lighter : (x : Nonterminal) (s : List Symbol) (u : Sight) (vs : List Tree) → front (produce x s u vs ++ s) < front (Part x ∷ s)
lighter x s u vs =
    let p = produce x s u vs in
    let is = sound x s u vs in
    lighter_by (reads_a_word x) (rank x) (front (p ++ s)) (front p) (front s) (has_word p) is.lower is.word (front_join p s) (front_word p s)

grouped_left : (k : ℕ) (ts : Tree) (vs : List Tree) → k ≤ length vs → length (grouped k ts vs).1 + k ≡ length vs
grouped_left zero ts vs l = omega arith
grouped_left (suc k) ts [] l = absurd (omega arith)
grouped_left (suc k) ts (v ∷ vs) l = omega (arith, grouped_left k (Cons v ts) vs (omega arith))

-- a making leaves as many trees as it says
pub built_left : (b : Build) (u : Sight) (vs : List Tree) → taken b ≤ length vs → length (built b u vs) ≡ left b (length vs)
built_left (build.Node q from k) u vs l = omega (arith, grouped_left k Nil vs l)
built_left (build.Root q) u [] l = absurd (omega arith)
built_left (build.Root q) u (v ∷ vs) l = refl
built_left (build.Group k) u vs l = omega (arith, grouped_left k Nil vs l)
built_left build.Add u [] l = absurd (omega arith)
built_left build.Add u (v ∷ []) l = absurd (omega arith)
built_left build.Add u (v ∷ ts ∷ vs) l = omega arith
built_left build.Missing u vs l = omega arith
built_left (build.Text t) u vs l = omega arith

pub le_or_lt : (a b : ℕ) → (a ≤ b) ⊎ (b < a)
le_or_lt zero b = inl (omega arith)
le_or_lt (suc a) zero = inr (omega arith)
le_or_lt (suc a) (suc b) = elim (le_or_lt a b) [ inl l ↦ inl (omega arith) | inr l ↦ inr (omega arith) ]

same_word : (v k : Word) (b : Bool) → sameb the_type k v ≡ b → (seen.Word k ≡ seen.Word v) ⊎ (seen.Word k ≢ seen.Word v)
same_word v k true e = inl (ap seen.Word (same_true the_type (search rules) k v e))
same_word v k false e = inr (λ h. same_false the_type k v e (cc))

is_word : (v : Word) (u : Seen) → (u ≡ seen.Word v) ⊎ (u ≢ seen.Word v)
is_word v (seen.Word k) = same_word v k (sameb the_type k v) refl
is_word v seen.Forbidden = inr (λ h. cc)
is_word v seen.End = inr (λ h. cc)

is_end : (u : Seen) → (u ≡ seen.End) ⊎ (u ≢ seen.End)
is_end (seen.Word k) = inr (λ h. cc)
is_end seen.Forbidden = inr (λ h. cc)
is_end seen.End = inl refl

pub end_seen : (text : Text) (i : ℕ) → length text.tokens.items ≤ i → (at text i).seen ≡ seen.End
end_seen text i l = ap (λ ts. (seen_at text.names (end_before text.tokens.items i) text.tokens.end ts).seen) (drop_all i text.tokens.items l)

abbrev Ended : Text → List Symbol → List Tree → ℕ → Type 0
Ended text s vs i = (o : Outcome) × Ends text s vs i o

module _ (text : Text) (i : ℕ) (later : (v : Word) → (at text i).seen ≡ seen.Word v → (s : List Symbol) (vs : List Tree) → Balanced s (length vs) → Ended text s vs (i + 1)) where
  read_word : (v : Word) (s : List Symbol) (vs : List Tree) → Balanced s (length vs) → (at text i).seen ≡ seen.Word v → Ended text (T v ∷ s) vs i
  read_word v s vs h e = elim (le_or_lt (nesting s) limit) [
    | inl room ↦ (let rest = later v e s vs h in (rest.0, ends.reads e room rest.1))
    | inr deep ↦ (TooDeep i, ends.deep e deep)
  ]

  read_semicolon : (s : List Symbol) (vs : List Tree) → Balanced s (length vs) → (at text i).seen ≡ seen.Word w.Semicolon → Ended text (Semicolon ∷ s) vs i
  read_semicolon s vs h e = elim (le_or_lt (nesting s) limit) [
    | inl room ↦ (let rest = later w.Semicolon e s vs h in (rest.0, ends.semicolon e room rest.1))
    | inr deep ↦ (TooDeep i, ends.deep_semicolon e deep)
  ]

  read_free : (s : List Symbol) (vs : List Tree) → Balanced s (length vs) → (at text i).seen ≡ seen.Word w.Semicolon → Ended text (FreeSemicolon ∷ s) vs i
  read_free s vs h e = elim (le_or_lt (nesting s) limit) [
    | inl room ↦ (let rest = later w.Semicolon e s vs h in (rest.0, ends.free_semicolon e room rest.1))
    | inr deep ↦ (TooDeep i, ends.deep_free_semicolon e deep)
  ]

  insert : (s : List Symbol) (vs : List Tree) → Ended text s vs i → (at text i).seen ≢ seen.Word w.Semicolon → (b : Bool) → may_insert (at text i) ≡ b → Ended text (Semicolon ∷ s) vs i
  insert s vs rest none true m = (rest.0, ends.inserted none m rest.1)
  insert s vs rest none false m = (Unexpected i, ends.missing none m)

  at_end : (s : List Symbol) (vs : List Tree) → length vs ≡ 1 → s ≡ [] → (at text i).seen ≡ seen.End → Ended text (End ∷ s) vs i
  at_end s [] one e end = absurd (omega arith)
  at_end s (v ∷ []) one e end = subst (λ s. Ended text (End ∷ s) (v ∷ []) i) (sym e) (Accepted v, ends.accepts end)
  at_end s (v ∷ x ∷ vs) one e end = absurd (omega arith)

  -- the steps that there is room for
  steps : (room : ℕ) (s : List Symbol) (vs : List Tree) → front s < room → Balanced s (length vs) → Ended text s vs i
  steps zero s vs l h = absurd (omega arith)
  steps (suc room) [] vs l h = absurd h
  steps (suc room) (T v ∷ s) vs l h = elim (is_word v (at text i).seen) [ inl e ↦ read_word v s vs h e | inr none ↦ (Unexpected i, ends.refused none) ]
  steps (suc room) (End ∷ s) vs l h = elim (is_end (at text i).seen) [ inl e ↦ at_end s vs h.0 h.1 e | inr more ↦ (Unexpected i, ends.goes_on more) ]
  steps (suc room) (Never ∷ s) vs l h = (Unexpected i, ends.never)
  steps (suc room) (Semicolon ∷ s) vs l h =
      let rest = steps room s vs (omega arith) h in
      elim (is_word w.Semicolon (at text i).seen) [ inl e ↦ read_semicolon s vs h e | inr none ↦ insert s vs rest none (may_insert (at text i)) refl ]
  steps (suc room) (FreeSemicolon ∷ s) vs l h =
      let rest = steps room s vs (omega arith) h in
      elim (is_word w.Semicolon (at text i).seen) [ inl e ↦ read_free s vs h e | inr none ↦ (rest.0, ends.free_inserted none rest.1) ]
  steps (suc room) (Part x ∷ s) vs l h =
      let less : front (produce x s (at text i) vs ++ s) < front (Part x ∷ s) = lighter x s (at text i) vs in
      let rest = steps room (produce x s (at text i) vs ++ s) vs (omega arith) (opened x s (at text i) vs (length vs) h) in
      (rest.0, ends.expands rest.1)
  steps (suc room) (Makes b ∷ s) vs l h =
      let rest = steps room s (built b (at text i) vs) (omega arith) (subst (Balanced s) (sym (built_left b (at text i) vs h.0)) h.1) in
      (rest.0, ends.makes rest.1)
  steps (suc room) (Leave o ∷ s) vs l h =
      let rest = steps room s vs (omega arith) h in
      (rest.0, ends.leaves rest.1)

-- with so many tokens left
from : (text : Text) (more i : ℕ) → length text.tokens.items ≤ i + more → (s : List Symbol) (vs : List Tree) → Balanced s (length vs) → Ended text s vs i
from text zero i l s vs h = steps text i (λ v e s vs h. absurd (let end : (at text i).seen ≡ seen.End = end_seen text i (omega arith) in cc)) (suc (front s)) s vs (omega arith) h
from text (suc more) i l s vs h = steps text i (λ v e s vs h. from text more (i + 1) (omega arith) s vs h) (suc (front s)) s vs (omega arith) h

pub balanced_beginning : (start : Start) → Balanced (beginning start) 0
balanced_beginning Program = (omega arith, inr (omega arith, (omega arith, (refl, refl))))
balanced_beginning Handler = (omega arith, inr (omega arith, (omega arith, (refl, refl))))

pub answered : EachHasOneAnswer
answered text =
    let ended = from text (length text.tokens.items) 0 (omega arith) (beginning text.start) [] (balanced_beginning text.start) in
    let is = answer text ended.0 ended.1 in
    (ended.0, is, λ o' h. one_answer text ended.0 o' is h)
