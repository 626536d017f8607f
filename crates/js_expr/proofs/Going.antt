-- A step of a reading goes one step of what the text ends in.
use Rattle.std.proofs.Common.{◌≡◌, ◌≢◌, inl, inr, append_assoc, ℕ, zero, suc, ◌+◌, ◌≤◌, ◌<◌, true, false, List, [], ◌∷◌, ◌++◌, length, drop, Option, Some, None, refl, sym, ◌∙◌, ap, subst, arith}
use Rattle.js_tokens.specs.declared.token.Tokens.{Tokens}
use Rattle.js_tokens.specs.declared.word.Word.{Word}
use Rattle.js_tokens.specs.declared.word.Word.TheVariants as w
use Rattle.js_tree.specs.Trees.{Tree}
use Rattle.js_expr.specs.declared.reading.End.{End as Ending}
use Rattle.js_expr.specs.declared.reading.End.TheVariants as end
use Rattle.js_expr.specs.declared.reading.Ending.{Ending as Answered}
use Rattle.js_expr.specs.declared.reading.Reading.{Reading}
use Rattle.js_expr.specs.declared.reading.Step.{Step}
use Rattle.js_expr.specs.declared.reading.Step.TheVariants as step
use Rattle.js_grammar.specs.declared.sight.Names.{Names}
use Rattle.js_grammar.specs.declared.sight.Seen.TheVariants as seen
use Rattle.js_grammar.specs.declared.symbol.Build.{Build}
use Rattle.js_grammar.specs.declared.symbol.Build.TheVariants as build
use Rattle.js_grammar.specs.declared.symbol.Nonterminal.{Nonterminal}
use Rattle.js_grammar.specs.declared.symbol.Nonterminal.TheVariants as n
use Rattle.js_grammar.specs.declared.symbol.Open.{Open}
use Rattle.js_grammar.specs.declared.symbol.Open.TheVariants as open_part
use Rattle.js_grammar.specs.declared.symbol.Start.{Start}
use Rattle.js_grammar.specs.declared.symbol.Start.TheVariants as start_of
use Rattle.js_grammar.specs.declared.symbol.Symbol.{Symbol}
use Rattle.js_grammar.specs.declared.symbol.Symbol.TheVariants.{Word as T, End, Semicolon, FreeSemicolon, Never, Part, Build as Makes, Leave}
use Rattle.js_grammar.specs.inner.Ranks.{Balanced, front}
use Rattle.js_grammar.specs.Sights.{may_insert}
use Rattle.js_productions.specs.declared.seeing.Glance.{Glance}
use Rattle.js_productions.specs.Glances.{sight_of}
use Rattle.js_grammar.specs.Parts.{nesting}
use Rattle.js_grammar.specs.Grammar.{produce}
use Rattle.js_grammar.specs.Derivations.{built, beginning}
use Rattle.js_grammar.specs.Answers.{Text, limit, Outcome, Accepted, Unexpected, TooDeep}
use Rattle.js_grammar.specs.Ends.{Ends}
use Rattle.js_grammar.specs.Ends as ends
use Rattle.js_grammar.specs.inner.Sorts.{IsSorted}
use Rattle.js_grammar.specs.inner.Sorts as sort
use Rattle.js_grammar.proofs.Sorting.{opened_sorts, sorted_beginning}
use Rattle.js_tree.specs.declared.production.Production.{Production}
use Rattle.js_pieces.specs.declared.pieces.Piece.{Piece}
use Rattle.js_pieces.specs.Pieces.{sorts}
use Rattle.js_pieces.specs.Functions.{LastIsText, whole_of}
use Rattle.js_expr.proofs.Wide.{at_making, behind_word, behind_semicolon, behind_free, behind_leave}
use Rattle.js_grammar.proofs.Total.{opened, lighter, built_left, balanced_beginning, end_seen}
use Rattle.js_expr.specs.Trees.{Builds, HoldsTrees, IsText, LastIsOf, MayBuild, MayFinish}
use Rattle.js_expr.specs.Reading.{LeadsToText, text_of, Shows, IsAt, HasTrees, GoesWith, IsBehind, EndsSo, Goes, GoesFrom, ArrivesFrom, seen_by, symbols_of}

-- the reading behind the next token
abbrev pub beyond : Glance → Reading → Reading
beyond g r = record r { place = r.place + 1; glance = g }

-- a word that is seen is a token of the text
within : {tokens : Tokens} {names : Names} {r : Reading} → IsAt tokens names r → (v : Word) → r.glance.seen ≡ seen.Word v → r.place < length tokens.items
within {tokens = tokens} {names = names} {r = r} a v e = below r.place (length tokens.items) (λ l. cc (sym e ∙ ap (λ u. u.seen) a.seen ∙ end_seen (text_of tokens names start_of.Program) r.place l))
  where
    below : (a b : ℕ) → (b ≤ a → ⊥) → a < b
    below zero zero f = absurd (f (omega arith))
    below zero (suc b) f = omega arith
    below (suc a) zero f = absurd (f (omega arith))
    below (suc a) (suc b) f = (let l : a < b = below a b (λ h. f (omega arith)) in omega arith)

-- What leads to a whole text ---------------------------------------------------------------------------------------------

abbrev pub StillToMake : List Symbol → Type 0
StillToMake s = (start : Start) × (p : List Symbol) × (s ≡ p ++ Makes (build.Root (whole_of start)) ∷ End ∷ [])

tail_is : {A : Type 0} {x y : A} {xs ys : List A} → x ∷ xs ≡ y ∷ ys → xs ≡ ys
tail_is e = cc

first_is : {A : Type 0} {x y : A} {xs ys : List A} → x ∷ xs ≡ y ∷ ys → x ≡ y
first_is e = cc

-- behind any other symbol the making is still to be read
leads_behind : (x : Symbol) (s : List Symbol) (ps : List Piece) → LeadsToText (x ∷ s) ps → (x ≡ End → ⊥) → ((q : Production) → x ≡ Makes (build.Root q) → ⊥) → StillToMake s
leads_behind x s ps (inl (start, [], e)) n m = absurd (m (whole_of start) (first_is e))
leads_behind x s ps (inl (start, y ∷ p, e)) n m = (start, p, tail_is e)
leads_behind x s ps (inr (e, l)) n m = absurd (n (first_is e))

leads_on : (q s : List Symbol) → StillToMake s → StillToMake (q ++ s)
leads_on q s (start, p, e) = (start, q ++ p, ap (λ z. q ++ z) e ∙ sym (append_assoc q p (Makes (build.Root (whole_of start)) ∷ End ∷ [])))

nothing_left : (p : List Symbol) (x y : Symbol) → [] ≡ p ++ x ∷ y ∷ [] → ⊥
nothing_left [] x y e = cc
nothing_left (z ∷ p) x y e = cc

ended_text : (s : List Symbol) (ps : List Piece) → s ≡ [] → LeadsToText (End ∷ s) ps → LastIsText ps
ended_text s ps e (inl (start, [], f)) = absurd (no_making (first_is f))
  where
    no_making : {b : Build} → End ≡ Makes b → ⊥
    no_making h = cc
ended_text s ps e (inl (start, y ∷ p, f)) = absurd (nothing_left p (Makes (build.Root (whole_of start))) End (sym e ∙ tail_is f))
ended_text s ps e (inr (f, l)) = l

-- behind a making
made_whole : (b : Build) (s : List Symbol) (old new : List Piece) → LeadsToText (Makes b ∷ s) old → ((q : Production) → b ≡ build.Root q → LastIsOf q new) → LeadsToText s new
made_whole b s old new (inl (start, [], e)) f =
    inr (tail_is e, (let (w, rest, is, of) = f (whole_of start) (making_is (first_is e)) in (start, w, rest, is, of)))
  where
    making_is : {b c : Build} → Makes b ≡ Makes c → b ≡ c
    making_is h = cc
made_whole b s old new (inl (start, y ∷ p, e)) f = inl (start, p, tail_is e)
made_whole b s old new (inr (e, l)) f = absurd (no_making (first_is e))
  where
    no_making : {b : Build} → Makes b ≡ End → ⊥
    no_making h = cc

-- A word -------------------------------------------------------------------------------------------------------------------

pub word_refused : {tokens : Tokens} {names : Names} {r : Reading} → IsAt tokens names r → (v : Word) → r.glance.seen ≢ seen.Word v →
    GoesFrom tokens names (T v ∷ symbols_of r) r (step.Ended (end.Unexpected r.place)) r
word_refused a v n start vs h = ends.refused (λ e. n (ap (λ u. u.seen) a.seen ∙ e))

pub word_deep : {tokens : Tokens} {names : Names} {r : Reading} → IsAt tokens names r → (v : Word) → r.glance.seen ≡ seen.Word v → limit < nesting (symbols_of r) →
    GoesFrom tokens names (T v ∷ symbols_of r) r (step.Ended (end.TooDeep r.place)) r
word_deep a v e l start vs h = ends.deep (sym (ap (λ u. u.seen) a.seen) ∙ e) l

pub word_on : {tokens : Tokens} {names : Names} {r : Reading} → IsAt tokens names r → (v : Word) → r.glance.seen ≡ seen.Word v → nesting (symbols_of r) ≤ limit →
    (now : Reading) → now ≡ beyond now.glance r → GoesFrom tokens names (T v ∷ symbols_of r) r step.Behind now
word_on {tokens = tokens} {names = names} {r = r} a v e l now is start vs h =
    subst (λ z. Goes (text_of tokens names start) (T v ∷ symbols_of r) vs r.place step.Behind z) (sym is)
    (record { trees = vs; has = record { holds = h.holds; balanced = h.balanced; sorted = behind_word v (symbols_of r) (sorts r.trees.pieces) h.sorted; leads = inl (leads_behind (T v) (symbols_of r) r.trees.pieces h.leads (λ e. cc) (λ q e. cc)) }; on = λ o d. ends.reads (sym (ap (λ u. u.seen) a.seen) ∙ e) l d }, refl, within a v e)

-- A semicolon --------------------------------------------------------------------------------------------------------------

pub semicolon_on : {tokens : Tokens} {names : Names} {r : Reading} → IsAt tokens names r → r.glance.seen ≡ seen.Word w.Semicolon → nesting (symbols_of r) ≤ limit →
    (now : Reading) → now ≡ beyond now.glance r → GoesFrom tokens names (Semicolon ∷ symbols_of r) r step.Behind now
semicolon_on {tokens = tokens} {names = names} {r = r} a e l now is start vs h =
    subst (λ z. Goes (text_of tokens names start) (Semicolon ∷ symbols_of r) vs r.place step.Behind z) (sym is)
    (record { trees = vs; has = record { holds = h.holds; balanced = h.balanced; sorted = behind_semicolon (symbols_of r) (sorts r.trees.pieces) h.sorted; leads = inl (leads_behind (Semicolon) (symbols_of r) r.trees.pieces h.leads (λ e. cc) (λ q e. cc)) }; on = λ o d. ends.semicolon (sym (ap (λ u. u.seen) a.seen) ∙ e) l d }, refl, within a w.Semicolon e)

pub semicolon_deep : {tokens : Tokens} {names : Names} {r : Reading} → IsAt tokens names r → r.glance.seen ≡ seen.Word w.Semicolon → limit < nesting (symbols_of r) →
    GoesFrom tokens names (Semicolon ∷ symbols_of r) r (step.Ended (end.TooDeep r.place)) r
semicolon_deep a e l start vs h = ends.deep_semicolon (sym (ap (λ u. u.seen) a.seen) ∙ e) l

pub semicolon_inserted : {tokens : Tokens} {names : Names} {r : Reading} → IsAt tokens names r → r.glance.seen ≢ seen.Word w.Semicolon → may_insert (sight_of r.glance []) ≡ true →
    GoesFrom tokens names (Semicolon ∷ symbols_of r) r step.On r
semicolon_inserted {r = r} a n m start vs h =
    (record { trees = vs; has = record { holds = h.holds; balanced = h.balanced; sorted = behind_semicolon (symbols_of r) (sorts r.trees.pieces) h.sorted; leads = inl (leads_behind (Semicolon) (symbols_of r) r.trees.pieces h.leads (λ e. cc) (λ q e. cc)) }; on = λ o d. ends.inserted (λ e. n (ap (λ u. u.seen) a.seen ∙ e)) (sym (ap may_insert a.seen) ∙ m) d }, refl, omega arith)

pub semicolon_missing : {tokens : Tokens} {names : Names} {r : Reading} → IsAt tokens names r → r.glance.seen ≢ seen.Word w.Semicolon → may_insert (sight_of r.glance []) ≡ false →
    GoesFrom tokens names (Semicolon ∷ symbols_of r) r (step.Ended (end.Unexpected r.place)) r
semicolon_missing a n m start vs h = ends.missing (λ e. n (ap (λ u. u.seen) a.seen ∙ e)) (sym (ap may_insert a.seen) ∙ m)

pub free_on : {tokens : Tokens} {names : Names} {r : Reading} → IsAt tokens names r → r.glance.seen ≡ seen.Word w.Semicolon → nesting (symbols_of r) ≤ limit →
    (now : Reading) → now ≡ beyond now.glance r → GoesFrom tokens names (FreeSemicolon ∷ symbols_of r) r step.Behind now
free_on {tokens = tokens} {names = names} {r = r} a e l now is start vs h =
    subst (λ z. Goes (text_of tokens names start) (FreeSemicolon ∷ symbols_of r) vs r.place step.Behind z) (sym is)
    (record { trees = vs; has = record { holds = h.holds; balanced = h.balanced; sorted = behind_free (symbols_of r) (sorts r.trees.pieces) h.sorted; leads = inl (leads_behind (FreeSemicolon) (symbols_of r) r.trees.pieces h.leads (λ e. cc) (λ q e. cc)) }; on = λ o d. ends.free_semicolon (sym (ap (λ u. u.seen) a.seen) ∙ e) l d }, refl, within a w.Semicolon e)

pub free_deep : {tokens : Tokens} {names : Names} {r : Reading} → IsAt tokens names r → r.glance.seen ≡ seen.Word w.Semicolon → limit < nesting (symbols_of r) →
    GoesFrom tokens names (FreeSemicolon ∷ symbols_of r) r (step.Ended (end.TooDeep r.place)) r
free_deep a e l start vs h = ends.deep_free_semicolon (sym (ap (λ u. u.seen) a.seen) ∙ e) l

pub free_inserted : {tokens : Tokens} {names : Names} {r : Reading} → IsAt tokens names r → r.glance.seen ≢ seen.Word w.Semicolon →
    GoesFrom tokens names (FreeSemicolon ∷ symbols_of r) r step.On r
free_inserted {r = r} a n start vs h =
    (record { trees = vs; has = record { holds = h.holds; balanced = h.balanced; sorted = behind_free (symbols_of r) (sorts r.trees.pieces) h.sorted; leads = inl (leads_behind (FreeSemicolon) (symbols_of r) r.trees.pieces h.leads (λ e. cc) (λ q e. cc)) }; on = λ o d. ends.free_inserted (λ e. n (ap (λ u. u.seen) a.seen ∙ e)) d }, refl, omega arith)

-- The end ------------------------------------------------------------------------------------------------------------------

pub end_refused : {tokens : Tokens} {names : Names} {r : Reading} → IsAt tokens names r → r.glance.seen ≢ seen.End →
    GoesFrom tokens names (End ∷ symbols_of r) r (step.Ended (end.Unexpected r.place)) r
end_refused a n start vs h = ends.goes_on (λ e. n (ap (λ u. u.seen) a.seen ∙ e))

-- at the end one whole text is there
pub may_finish : (r : Reading) (s : List Symbol) → GoesWith r (End ∷ s) → MayFinish r.trees
may_finish r s (vs, h) =
    let (t, one) = only vs h.balanced.0 in
    (ended_text s r.trees.pieces h.balanced.1 h.leads, (t, subst (HoldsTrees r.trees) one h.holds))
  where
    only : (vs : List Tree) → length vs ≡ 1 → (t : Tree) × (vs ≡ t ∷ [])
    only [] e = cc
    only (t ∷ []) e = (t, refl)
    only (t ∷ u ∷ vs) e = cc

pub end_accepted : {tokens : Tokens} {names : Names} {r : Reading} → IsAt tokens names r → (now : Reading) → r.glance.seen ≡ seen.End →
    ((t : Tree) → HoldsTrees r.trees (t ∷ []) → IsText now.trees.script t) →
    GoesFrom tokens names (End ∷ symbols_of r) r (step.Ended end.Accepted) now
end_accepted {tokens = tokens} {names = names} {r = r} a now e has start vs h =
    let (t, one) = only vs h.balanced.0 in (
      t,
      has t (subst (HoldsTrees r.trees) one h.holds),
      subst (λ z. Ends (text_of tokens names start) (End ∷ z) vs r.place (Accepted t)) (sym h.balanced.1)
          (subst (λ z. Ends (text_of tokens names start) (End ∷ []) z r.place (Accepted t)) (sym one) (ends.accepts (sym (ap (λ u. u.seen) a.seen) ∙ e))),
    )
  where
    only : (vs : List Tree) → length vs ≡ 1 → (t : Tree) × (vs ≡ t ∷ [])
    only [] e = cc
    only (t ∷ []) e = (t, refl)
    only (t ∷ u ∷ vs) e = cc

-- What stands for more -----------------------------------------------------------------------------------------------------

pub part_on : {tokens : Tokens} {names : Names} {r : Reading} → IsAt tokens names r → (x : Nonterminal) (symbol : Symbol) (now : Reading) → symbol ≡ Part x → now ≡ record r { stack = now.stack } →
    ((vs : List Tree) → HoldsTrees r.trees vs → symbols_of now ≡ produce x (symbols_of r) (seen_by tokens r) vs ++ symbols_of r) → GoesFrom tokens names (symbol ∷ symbols_of r) r step.On now
part_on {tokens = tokens} {names = names} {r = r} a x symbol now s is p start vs h =
    let text = text_of tokens names start in
    let said = p vs h.holds in
    let balanced : Balanced (Part x ∷ symbols_of r) (length vs) = subst (λ z. Balanced (z ∷ symbols_of r) (length vs)) s h.balanced in
    let less : front (produce x (symbols_of r) (seen_by tokens r) vs ++ symbols_of r) < front (Part x ∷ symbols_of r) = lighter x (symbols_of r) (seen_by tokens r) vs in (
      record {
        trees = vs;
        has = record {
          holds = subst (λ z. HoldsTrees z.trees vs) (sym is) h.holds;
          balanced = subst (λ z. Balanced z (length vs)) (sym said) (opened x (symbols_of r) (seen_by tokens r) vs (length vs) balanced);
          sorted = subst (λ z. IsSorted (symbols_of now) (sorts z.trees.pieces)) (sym is) (subst (λ z. IsSorted z (sorts r.trees.pieces)) (sym said)
              (opened_sorts x (symbols_of r) (seen_by tokens r) vs (sorts r.trees.pieces) (subst (λ z. IsSorted (z ∷ symbols_of r) (sorts r.trees.pieces)) s h.sorted)));
          leads = inl (subst StillToMake (sym said) (leads_on (produce x (symbols_of r) (seen_by tokens r) vs) (symbols_of r)
              (leads_behind (Part x) (symbols_of r) r.trees.pieces (subst (λ z. LeadsToText (z ∷ symbols_of r) r.trees.pieces) s h.leads) (λ e. cc) (λ q e. cc))));
        };
        on = λ o d.
            let here = subst (λ z. Ends text (symbols_of now) vs z.place o) is d in
            let more = subst (λ z. Ends text z vs r.place o) (said ∙ ap (λ u. produce x (symbols_of r) u vs ++ symbols_of r) a.seen) here in
            subst (λ z. Ends text (z ∷ symbols_of r) vs r.place o) (sym s) (ends.expands more);
      },
      ap (λ z. z.place) is,
      subst (λ z. front (symbols_of now) < front (z ∷ symbols_of r)) (sym s) (subst (λ z. front z < front (Part x ∷ symbols_of r)) (sym said) less),
    )

pub build_on : {tokens : Tokens} {names : Names} {r : Reading} → IsAt tokens names r → (b : Build) (symbol : Symbol) (now : Reading) → symbol ≡ Makes b → now ≡ record r { trees = now.trees } →
    Builds b r.glance r.trees now.trees → GoesFrom tokens names (symbol ∷ symbols_of r) r step.On now
build_on {tokens = tokens} {names = names} {r = r} a b symbol now s is p start vs h =
    let text = text_of tokens names start in
    let balanced : Balanced (Makes b ∷ symbols_of r) (length vs) = subst (λ z. Balanced (z ∷ symbols_of r) (length vs)) s h.balanced in
    let same : symbols_of r ≡ symbols_of now = sym (ap symbols_of is) in (
      record {
        trees = built b (seen_by tokens r) vs;
        has = record {
          holds = p.trees (drop r.place tokens.items) vs h.holds;
          balanced = subst (λ z. Balanced z (length (built b (seen_by tokens r) vs))) same (subst (Balanced (symbols_of r)) (sym (built_left b (seen_by tokens r) vs balanced.0)) balanced.1);
          sorted = (let (es, fits, rest) = at_making b (symbols_of r) (sorts r.trees.pieces) (subst (λ z. IsSorted (z ∷ symbols_of r) (sorts r.trees.pieces)) s h.sorted) in
              subst (λ z. IsSorted z (sorts now.trees.pieces)) same (sort.widens (sorts now.trees.pieces) es (p.sorts es fits) rest));
          leads = subst (λ z. LeadsToText z now.trees.pieces) same
              (made_whole b (symbols_of r) r.trees.pieces now.trees.pieces (subst (λ z. LeadsToText (z ∷ symbols_of r) r.trees.pieces) s h.leads) p.whole);
        };
        on = λ o d.
            let here = subst (λ z. Ends text (symbols_of z) (built b (seen_by tokens r) vs) z.place o) is d in
            let more = subst (λ u. Ends text (symbols_of r) (built b u vs) r.place o) a.seen here in
            subst (λ z. Ends text (z ∷ symbols_of r) vs r.place o) (sym s) (ends.makes more);
      },
      ap (λ z. z.place) is,
      subst (λ z. front (symbols_of now) < front (z ∷ symbols_of r)) (sym s) (subst (λ z. front z < front (Makes b ∷ symbols_of r)) same (omega arith)),
    )

-- what is to be read next fits
pub may_build : (r : Reading) (b : Build) (symbol : Symbol) → symbol ≡ Makes b → GoesWith r (symbol ∷ symbols_of r) → MayBuild b r.trees
may_build r b symbol s (vs, h) =
    let (es, fits, rest) = at_making b (symbols_of r) (sorts r.trees.pieces) (subst (λ z. IsSorted (z ∷ symbols_of r) (sorts r.trees.pieces)) s h.sorted) in
    record { some = vs; holds = h.holds; sorts_behind = es; fits = fits }

pub may_look : (r : Reading) (s : List Symbol) → GoesWith r s → (vs : List Tree) × HoldsTrees r.trees vs
may_look r s (vs, h) = (vs, h.holds)

pub leave_on : {tokens : Tokens} {names : Names} {r : Reading} → IsAt tokens names r → (x : Open) (symbol : Symbol) → symbol ≡ Leave x → GoesFrom tokens names (symbol ∷ symbols_of r) r step.On r
leave_on {tokens = tokens} {names = names} {r = r} a x symbol s start vs h = (
  record {
    trees = vs;
    has = record {
      holds = h.holds;
      balanced = subst (λ z. Balanced (z ∷ symbols_of r) (length vs)) s h.balanced;
      sorted = behind_leave x (symbols_of r) (sorts r.trees.pieces) (subst (λ z. IsSorted (z ∷ symbols_of r) (sorts r.trees.pieces)) s h.sorted);
      leads = inl (leads_behind (Leave x) (symbols_of r) r.trees.pieces (subst (λ z. LeadsToText (z ∷ symbols_of r) r.trees.pieces) s h.leads) (λ e. cc) (λ q e. cc));
    };
    on = λ o d. subst (λ z. Ends (text_of tokens names start) (z ∷ symbols_of r) vs r.place o) (sym s) (ends.leaves d);
  },
  refl,
  subst (λ z. front (symbols_of r) < front (z ∷ symbols_of r)) (sym s) (omega arith),
)

pub never_ends : (tokens : Tokens) (names : Names) (r : Reading) (symbol : Symbol) → symbol ≡ Never → GoesFrom tokens names (symbol ∷ symbols_of r) r (step.Ended (end.Unexpected r.place)) r
never_ends tokens names r symbol e start vs h = subst (λ z. Ends (text_of tokens names start) (z ∷ symbols_of r) vs r.place (Unexpected r.place)) (sym e) ends.never

-- Up to a word -------------------------------------------------------------------------------------------------------------

-- a reading has gone on from another without a word
pub record Went (tokens : Tokens) (names : Names) (old now : Reading) : Type 0 where
  pub at : IsAt tokens names now
  pub place : now.place ≡ old.place
  pub behind : (start : Start) (vs : List Tree) → HasTrees old (symbols_of old) vs → IsBehind (text_of tokens names start) (symbols_of old) vs old.place now

pub went_first : (tokens : Tokens) (names : Names) (r : Reading) → IsAt tokens names r → Went tokens names r r
went_first tokens names r a = record { at = a; place = refl; behind = λ start vs h. record { trees = vs; has = h; on = λ o d. d } }

pub still_goes : {tokens : Tokens} {names : Names} {old now : Reading} → Went tokens names old now → GoesWith old (symbols_of old) → GoesWith now (symbols_of now)
still_goes w (vs, h) = let b = w.behind start_of.Program vs h in (b.trees, b.has)

-- behind a reading that is behind another
beyond_both : {text : Text} {s : List Symbol} {vs : List Tree} {i : ℕ} {r now : Reading} → (b : IsBehind text s vs i r) → IsBehind text (symbols_of r) b.trees r.place now → IsBehind text s vs i now
beyond_both b c = record { trees = c.trees; has = c.has; on = λ o d. b.on o (c.on o d) }

at_step : (tokens : Tokens) (names : Names) (r now : Reading) {s t : Step} → s ≡ t → GoesFrom tokens names (symbols_of r) r s now → GoesFrom tokens names (symbols_of r) r t now
at_step tokens names r now e g = subst (λ z. GoesFrom tokens names (symbols_of r) r z now) e g

pub went_on : {tokens : Tokens} {names : Names} {old r : Reading} → Went tokens names old r → (now : Reading) (s : Step) → s ≡ step.On → IsAt tokens names now → GoesWith r (symbols_of r) → GoesFrom tokens names (symbols_of r) r s now → Went tokens names old now
went_on {tokens = tokens} {names = names} {r = r} w now s e a (us, some) g = record {
  at = a;
  place = (at_step tokens names r now e g start_of.Program us some).1 ∙ w.place;
  behind = λ start vs h. let b = w.behind start vs h in beyond_both b (at_step tokens names r now e g start b.trees b.has).0;
}

pub went_down : (tokens : Tokens) (names : Names) (r now : Reading) (s : Step) → s ≡ step.On → GoesWith r (symbols_of r) → GoesFrom tokens names (symbols_of r) r s now → front (symbols_of now) < front (symbols_of r)
went_down tokens names r now s e (us, some) g = (at_step tokens names r now e g start_of.Program us some).2

pub arrived : {tokens : Tokens} {names : Names} {old r : Reading} → Went tokens names old r → (now : Reading) (s : Step) → s ≡ step.Behind → GoesFrom tokens names (symbols_of r) r s now → ArrivesFrom tokens names old None now
arrived {tokens = tokens} {names = names} {r = r} w now s e g start vs h =
    let b = w.behind start vs h in
    let more = at_step tokens names r now e g start b.trees b.has in
    (beyond_both b more.0, more.1 ∙ ap (λ n. n + 1) w.place, subst (λ n. n < length tokens.items) w.place more.2)

ended_by : {text : Text} {s : List Symbol} {vs : List Tree} {i : ℕ} {r : Reading} (b : IsBehind text s vs i r) (e : Ending) (now : Reading) → EndsSo text (symbols_of r) b.trees r.place e now → EndsSo text s vs i e now
ended_by b end.Accepted now (t, h, d) = (t, h, b.on (Accepted t) d)
ended_by b (end.Unexpected j) now d = b.on (Unexpected j) d
ended_by b (end.TooDeep j) now d = b.on (TooDeep j) d

pub ended : {tokens : Tokens} {names : Names} {old r : Reading} → Went tokens names old r → (now : Reading) (s : Step) (e : Ending) → s ≡ step.Ended e → GoesFrom tokens names (symbols_of r) r s now → ArrivesFrom tokens names old (Some e) now
ended {tokens = tokens} {names = names} {r = r} w now s e is g start vs h = let b = w.behind start vs h in ended_by b e now (at_step tokens names r now is g start b.trees b.has)

-- A whole reading ----------------------------------------------------------------------------------------------------------

-- what the text ends in from where the reading is, it ends in from its beginning
pub record Underway (tokens : Tokens) (names : Names) (start : Start) (r : Reading) : Type 0 where
  pub at : IsAt tokens names r
  pub behind : IsBehind (text_of tokens names start) (beginning start) [] 0 r

to_make : (start : Start) → StillToMake (beginning start)
to_make start_of.Program = (start_of.Program, Makes (build.Group 0) ∷ Part n.Sources ∷ [], refl)
to_make start_of.Handler = (start_of.Handler, Makes (build.Group 0) ∷ Part n.Sources ∷ Leave open_part.Function ∷ [], refl)

pub underway_first : (tokens : Tokens) (names : Names) (start : Start) (r : Reading) → IsAt tokens names r → HoldsTrees r.trees [] → r.trees.pieces ≡ [] → symbols_of r ≡ beginning start → r.place ≡ 0 → Underway tokens names start r
underway_first tokens names start r a h none s p = record {
  at = a;
  behind = record {
    trees = [];
    has = record {
      holds = h;
      balanced = subst (λ z. Balanced z 0) (sym s) (balanced_beginning start);
      sorted = subst (λ z. IsSorted z (sorts r.trees.pieces)) (sym s) (subst (λ z. IsSorted (beginning start) (sorts z)) (sym none) (sorted_beginning start));
      leads = inl (subst StillToMake (sym s) (to_make start));
    };
    on = λ o d. subst (λ z. Ends (text_of tokens names start) z [] 0 o) s (subst (λ z. Ends (text_of tokens names start) (symbols_of r) [] z o) p d);
  };
}

pub underway_goes : {tokens : Tokens} {names : Names} {start : Start} {r : Reading} → Underway tokens names start r → GoesWith r (symbols_of r)
underway_goes u = (u.behind.trees, u.behind.has)

at_end : (tokens : Tokens) (names : Names) (r now : Reading) {s t : Option Ending} → s ≡ t → ArrivesFrom tokens names r s now → ArrivesFrom tokens names r t now
at_end tokens names r now e g = subst (λ z. ArrivesFrom tokens names r z now) e g

pub underway_on : {tokens : Tokens} {names : Names} {start : Start} {r : Reading} → Underway tokens names start r → (now : Reading) (o : Option Ending) → o ≡ None → IsAt tokens names now → ArrivesFrom tokens names r o now → Underway tokens names start now
underway_on {tokens = tokens} {names = names} {start = start} {r = r} u now o e a g = record { at = a; behind = beyond_both u.behind (at_end tokens names r now e g start u.behind.trees u.behind.has).0 }

-- there is a token less
pub underway_down : {tokens : Tokens} {names : Names} {start : Start} {r : Reading} → Underway tokens names start r → (now : Reading) (o : Option Ending) → o ≡ None → ArrivesFrom tokens names r o now → (now.place ≡ r.place + 1) × (r.place < length tokens.items)
underway_down {tokens = tokens} {names = names} {start = start} {r = r} u now o e g = let more = at_end tokens names r now e g start u.behind.trees u.behind.has in (more.1, more.2)

-- the outcome that an answer shows
abbrev pub Ended : Tokens → Names → Start → Answered → Type 0
Ended tokens names start a = (o : Outcome) × Shows a o × Ends (text_of tokens names start) (beginning start) [] 0 o

pub underway_ended : {tokens : Tokens} {names : Names} {start : Start} {r : Reading} → Underway tokens names start r → (now : Reading) (o : Option Ending) (e : Ending) (a : Answered) → o ≡ Some e → ArrivesFrom tokens names r o now
    → ((text : Text) (s : List Symbol) (vs : List Tree) (i : ℕ) → EndsSo text s vs i e now → (x : Outcome) × Shows a x × Ends text s vs i x) → Ended tokens names start a
underway_ended {tokens = tokens} {names = names} {start = start} {r = r} u now o e a is g shows =
    shows (text_of tokens names start) (beginning start) [] 0 (ended_by u.behind e now (at_end tokens names r now is g start u.behind.trees u.behind.has))
