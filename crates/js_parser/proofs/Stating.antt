-- What is read in the place of functions and statements leads on as these do.
use Rattle.std.proofs.Common.{◌≡◌, ℕ, Bool, true, false, List, [], ◌∷◌, ◌++◌, ◌&&◌, refl, sym, ◌∙◌, subst}
use Rattle.std.specs.Prelude.{if◌then◌else◌}
use Rattle.std.proofs.lemmas.Bool.{and_from}
use Rattle.js_tokens.specs.declared.word.Word.TheVariants as w
use Rattle.js_tree.specs.Names.{is_among}
use Rattle.js_tree.specs.declared.production.Production.{Production}
use Rattle.js_tree.specs.declared.production.Production.TheVariants as p
use Rattle.js_tree.specs.Trees.{Tree, Made, Word, Missing, Nil, Cons}
use Rattle.js_tree.specs.Runs.{Around, is_for_target, in_loop, joined_labels}
use Rattle.js_tree.specs.Runs as runs
use Rattle.js_grammar.specs.declared.sight.Seen.{Seen}
use Rattle.js_grammar.specs.declared.sight.Seen.TheVariants as seen
use Rattle.js_grammar.specs.declared.sight.Sight.{Sight}
use Rattle.js_grammar.specs.declared.symbol.Form.{Form}
use Rattle.js_grammar.specs.declared.symbol.Form.TheVariants.{Full}
use Rattle.js_grammar.specs.declared.symbol.Nonterminal.TheVariants as n
use Rattle.js_grammar.specs.declared.symbol.Open.TheVariants as open_part
use Rattle.js_grammar.specs.declared.symbol.Symbol.{Symbol}
use Rattle.js_grammar.specs.declared.symbol.Symbol.TheVariants.{Word as T, Semicolon, Never, Part, Leave}
use Rattle.js_grammar.specs.Derivations.{behind}
use Rattle.js_grammar.specs.Grammar.{node, list, pair, add, missing, text, begins, starts, sources, named_statement, expression_statement, return_statement, statement, more_declarators, initialiser, otherwise, for_expression, for_head, for_declared, for_var, for_test, for_update, unlabelled, labelled, jump, returned_by, thrown, cases, handlers, finally}
use Rattle.js_grammar.specs.Parts.{in_function, breaks, continues, breaks_to, continues_to}
use Rattle.js_grammar.specs.Sights.{may_insert}
use Rattle.js_parser.proofs.Around.{around, front, returns_around, breaks_around, continues_around, breaks_to_around, continues_to_around}
use Rattle.js_parser.proofs.Fitting.{Fits, IsFree, IsWord, FitsAt, FitsAlways, Leads, fits_made, fits_one, fits_two, fits_three, fits_behind, free_made, free_one, free_two, free_three, free_behind, free_of_word, free_missing, free_nil}
use Rattle.js_parser.proofs.Opening.{Opens, by_if}

-- a free tree as a statement
free_statement : (q : Production) (from to : ℕ) (t : Tree) → ((a : Around) →
    runs.fits a q (Cons t Nil) ≡ true) → IsFree t → IsFree (Made q from to (Cons t Nil))
free_statement q from to t e g = free_made q from to (Cons t Nil) e (free_one t g)

-- Functions ---------------------------------------------------------------------------------------

pub function_open : (from : ℕ) (s : List Symbol) (vs : List Tree) →
    Opens n.Function (T w.Function ∷ Part n.OwnName ∷ T w.OpenParen ∷ list ∷ Part n.Parameters ∷
    Part n.Body ∷ node p.Function from 3 ∷ []) s vs
function_open from s vs k = λ o go y. (
  free_nil,
  λ l gl b gb z.
      k (Made p.Function from z.before (Cons o (Cons l (Cons b Nil))))
      (free_made p.Function from z.before (Cons o (Cons l (Cons b Nil))) (λ a. gb.1)
      (free_three o l b go gl gb.0)),
)

pub declaration_open : (from : ℕ) (s : List Symbol) (vs : List Tree) →
    Opens n.Declaration (T w.Function ∷ Part n.Name ∷ T w.OpenParen ∷ list ∷ Part n.Parameters ∷
    Part n.Body ∷ node p.Declaration from 3 ∷ Leave open_part.Part ∷ []) s vs
declaration_open from s vs k = λ o go y. (
  free_nil,
  λ l gl b gb z.
      k (Made p.Declaration from z.before (Cons o (Cons l (Cons b Nil))))
      (free_made p.Declaration from z.before (Cons o (Cons l (Cons b Nil))) (λ a. gb.1)
      (free_three o l b (free_of_word o go) gl gb.0)),
)

pub body_open : (from : ℕ) (s : List Symbol) (vs : List Tree) →
    Opens n.Body (T w.OpenBrace ∷ list ∷ Part n.Sources ∷ Leave open_part.Function ∷
    T w.CloseBrace ∷ node p.Body from 1 ∷ []) s vs
body_open from s vs k = λ y. (
  refl,
  λ l gl z.
      k (Made p.Body from z.before (Cons l Nil)) (λ a f. fits_one runs.in_function [] l gl, refl),
)

listed_open : (b : Bool) (s : List Symbol) (vs : List Tree) →
    Opens n.Sources (if b then Part n.Statement ∷ add ∷ Part n.Sources ∷ [] else []) s vs
listed_open b s [] h = absurd h
listed_open true s (l ∷ vs) (g, k) = λ t gt u. (fits_behind (around s) [] l t g gt, k)
listed_open false s (l ∷ vs) (g, k) = k l g

pub sources_open : (v : Seen) (s : List Symbol) (vs : List Tree) →
    Opens n.Sources (sources s v) s vs
sources_open v s [] h = absurd h
sources_open (seen.Word w.Function) s (l ∷ vs) (g, k) = λ t gt u.
    (fits_behind (around s) [] l t g (gt (around s) []), k)
sources_open v s (l ∷ vs) h = listed_open (starts s v) s (l ∷ vs) h

pub statements_open : (b : Bool) (s : List Symbol) (vs : List Tree) →
    Opens n.Statements (if b then Part n.Statement ∷ add ∷ Part n.Statements ∷ [] else []) s vs
statements_open b s [] h = absurd h
statements_open true s (l ∷ vs) (g, k) = λ t gt u. (fits_behind (around s) [] l t g gt, k)
statements_open false s (l ∷ vs) (g, k) = k l g

-- Statements --------------------------------------------------------------------------------------

expression_open : (from : ℕ) (s : List Symbol) (vs : List Tree) →
    Opens n.Statement (Part (n.Expression Full) ∷ Semicolon ∷ node p.Expression from 1 ∷
    Leave open_part.Part ∷ []) s vs
expression_open from s vs k = λ t g z.
    k (Made p.Expression from z.before (Cons t Nil))
    (free_statement p.Expression from z.before t (λ a. refl) g (around s) (front s))

other_open : (from : ℕ) (v : Seen) (s : List Symbol) (vs : List Tree) →
    Opens n.Statement (expression_statement from v) s vs
other_open from v s vs k =
    by_if (begins v) _ (Never ∷ []) s vs (λ e. expression_open from s vs k) (λ e. tt)

labelled_open : (u : Sight) (s : List Symbol) (vs : List Tree) →
    Opens n.Statement (T w.Name ∷ text u.text ∷ T w.Colon ∷ Part n.Statement ∷
    node p.Labelled u.from 2 ∷ Leave (open_part.Labelled u.text) ∷ []) s vs
labelled_open u s vs k = λ y t gt z.
    k (Made p.Labelled u.from z.before (Cons (Word u.text) (Cons t Nil)))
    (fits_two (record (around s) { labels = joined_labels (u.text ∷ []) (around s).labels })
    (u.text ∷ front s) (Word u.text) t refl gt)

named_open : (u : Sight) (s : List Symbol) (vs : List Tree) →
    Opens n.Statement (named_statement s u) s vs
named_open u s vs k =
    by_if u.colon _ _ s vs
    (λ e. by_if (breaks_to u.text s) _ _ s vs (λ d. tt) (λ d. labelled_open u s vs k))
    (λ e. expression_open u.from s vs k)

return_open : (from : ℕ) (s : List Symbol) (vs : List Tree) →
    Opens n.Statement (if in_function s then return_statement from else Never ∷ []) s vs
return_open from s vs k =
    by_if (in_function s) _ (Never ∷ []) s vs (λ e t gt. k t (gt e (front s))) (λ e. tt)

pub statement_open : (u : Sight) (v : Seen) (s : List Symbol) (vs : List Tree) →
    Opens n.Statement (statement s u v) s vs
statement_open u (seen.Word w.OpenBrace) s vs k = λ l gl z.
    k (Made p.Block u.from z.before (Cons l Nil)) (fits_one (around s) [] l gl)
statement_open u (seen.Word w.Var) s vs k = λ l gl z.
    k (Made p.Var u.from z.before (Cons l Nil))
    (free_statement p.Var u.from z.before l (λ a. refl) gl (around s) (front s))
statement_open u (seen.Word w.Semicolon) s vs k = λ z. k (Made p.Empty u.from z.before Nil) refl
statement_open u (seen.Word w.If) s vs k = λ e ge t gt.
    (gt, ge, λ i gi. k i (gi refl (front s)))
statement_open u (seen.Word w.Do) s vs k = λ t gt e ge z.
    k (Made p.DoWhile u.from z.before (Cons t (Cons e Nil)))
    (fits_two (in_loop (front s) (around s)) [] t e gt (ge (in_loop (front s) (around s)) []))
statement_open u (seen.Word w.While) s vs k = λ e ge t gt z.
    k (Made p.While u.from z.before (Cons e (Cons t Nil)))
    (fits_two (in_loop (front s) (around s)) [] e t (ge (in_loop (front s) (around s)) []) gt)
statement_open u (seen.Word w.For) s vs k = λ t gt. k t (gt s refl)
statement_open u (seen.Word w.Continue) s vs k = λ t gt. k t (gt (front s))
statement_open u (seen.Word w.Break) s vs k = λ t gt. k t (gt (front s))
statement_open u (seen.Word w.Return) s vs k = return_open u.from s vs k
statement_open u (seen.Word w.Switch) s vs k = λ e ge y. (
  refl,
  λ c gc z.
      k (Made p.Switch u.from z.before (Cons e (Cons c Nil)))
      (fits_two (record (around s) { is_broken = true }) [] e c
      (ge (record (around s) { is_broken = true }) []) gc),
)
statement_open u (seen.Word w.Throw) s vs k = λ t gt. k t (gt (around s) (front s))
statement_open u (seen.Word w.Try) s vs k = λ l gl. (gl, λ t gt. k t (gt (front s)))
statement_open u (seen.Word w.Name) s vs k = named_open u s vs k
statement_open u v s vs k = other_open u.from v s vs k

-- Parts of statements -----------------------------------------------------------------------------

pub declarator_open : (f : Form) (s : List Symbol) (vs : List Tree) →
    Opens (n.Declarator f) (Part n.Name ∷ Part (n.Initialiser f) ∷ pair ∷ add ∷ []) s vs
declarator_open f s [] h = absurd h
declarator_open f s (l ∷ vs) (g, k) = λ t gt i gi y z.
    k (behind l (Cons t (Cons i Nil)))
    (free_behind l (Cons t (Cons i Nil)) g (free_two t i (free_of_word t gt) gi))

pub more_declarators_open : (f : Form) (v : Seen) (s : List Symbol) (vs : List Tree) →
    Opens (n.MoreDeclarators f) (more_declarators f v) s vs
more_declarators_open f v s [] h = absurd h
more_declarators_open f (seen.Word w.Comma) s (l ∷ vs) (g, k) = (g, λ t gt. (gt, k))
more_declarators_open f _ s (l ∷ vs) (g, k) = k l g

pub initialiser_open : (f : Form) (v : Seen) (s : List Symbol) (vs : List Tree) →
    Opens (n.Initialiser f) (initialiser f v) s vs
initialiser_open f (seen.Word w.Assign) s vs k = k
initialiser_open f _ s vs k = λ z. k Missing free_missing

pub otherwise_open : (from : ℕ) (v : Seen) (s : List Symbol) (vs : List Tree) →
    Opens (n.Else from) (otherwise from v) s vs
otherwise_open from v s [] h = absurd h
otherwise_open from v s (t ∷ []) h = absurd h
otherwise_open from (seen.Word w.Else) s (t ∷ e ∷ vs) (gt, ge, k) = λ r gr z.
    k (Made p.If from z.before (Cons e (Cons t (Cons r Nil))))
    (λ none f. fits_three (around s) [] e t r (ge (around s) []) gt
    (subst (λ y. Fits (around s) y r) none gr))
otherwise_open from _ s (t ∷ e ∷ vs) (gt, ge, k) = λ y z.
    k (Made p.If from z.before (Cons e (Cons t (Cons Missing Nil))))
    (λ none f. fits_three (around s) [] e t Missing (ge (around s) []) gt refl)

-- Loops -------------------------------------------------------------------------------------------

-- a target in a for-in is read next
abbrev pub reads_in : Seen → Bool → Bool
reads_in (seen.Word w.Name) b = b
reads_in (seen.Word w.OpenParen) b = b
reads_in _ b = false

for_expression_open : (from : ℕ) (is_in : Bool) (s : List Symbol) (vs : List Tree) →
    is_in ≡ false → Opens (n.ForHead from) (for_expression from is_in) s vs
for_expression_open from true s vs e k = cc
for_expression_open from false s vs e k = λ t gt. (gt, k)

pub for_head_open : (from : ℕ) (u : Sight) (v : Seen) (s : List Symbol) (vs : List Tree) →
    reads_in v u.target ≡ false → Opens (n.ForHead from) (for_head from u v) s vs
for_head_open from u (seen.Word w.Var) s vs e k = k
for_head_open from u (seen.Word w.Semicolon) s vs e k = λ z. (free_missing, k)
for_head_open from u (seen.Word w.Name) s vs e k = for_expression_open from u.target s vs e k
for_head_open from u (seen.Word w.OpenParen) s vs e k = for_expression_open from u.target s vs e k
for_head_open from u _ s vs e k = for_expression_open from false s vs refl k

for_declared_open : (from at : ℕ) (is_in : Bool) (s : List Symbol) (vs : List Tree) →
    Opens (n.ForVar from at) (for_declared from at is_in) s vs
for_declared_open from at is_in s vs k =
    by_if is_in _ _ s vs
    (λ e a t gt b c d z. (
      (
        free_statement p.Var at z.before (Cons (Cons t (Cons Missing Nil)) Nil)
            (λ i. refl) (free_one (Cons t (Cons Missing Nil)) (free_two t Missing (free_of_word t gt) free_missing)),
        is_declared at z.before t gt,
      ),
      k,
    ))
    (λ e l gl z. (free_statement p.Var at z.before l (λ i. refl) gl, k))
  where
    is_declared : (from to : ℕ) (t : Tree) → IsWord t →
        is_for_target (Made p.Var from to (Cons (Cons (Cons t (Cons Missing Nil)) Nil) Nil)) ≡ true
    is_declared from to t (u, e) =
        subst (λ z. is_for_target (Made p.Var from to (Cons (Cons (Cons z (Cons Missing Nil)) Nil) Nil)) ≡ true)
        (sym e) refl

pub for_var_open : (from at : ℕ) (u : Sight) (v : Seen) (s : List Symbol) (vs : List Tree) →
    Opens (n.ForVar from at) (for_var from at u v) s vs
for_var_open from at u (seen.Word w.Name) s vs k = for_declared_open from at u.target s vs k
for_var_open from at u _ s vs k = for_declared_open from at false s vs k

pub for_object_open : (from : ℕ) (s : List Symbol) (vs : List Tree) →
    Opens (n.ForObject from) (T w.In ∷ Part (n.Expression Full) ∷ T w.CloseParen ∷
    Part n.Statement ∷ node p.ForIn from 3 ∷ []) s vs
for_object_open from s [] h = absurd h
for_object_open from s (x ∷ vs) (g, k) = λ e ge t gt z.
    k (Made p.ForIn from z.before (Cons x (Cons e (Cons t Nil)))) (λ rest is. within z.before e ge t rest is gt)
  where
    within : (to : ℕ) (e : Tree) → IsFree e → (t : Tree) (rest : List Symbol) →
        s ≡ Leave open_part.Loop ∷ rest → Fits (around s) (front s) t →
        FitsAt rest (Made p.ForIn from to (Cons x (Cons e (Cons t Nil))))
    within to e ge t rest is gt =
        let a = in_loop (front rest) (around rest) in
        fits_made (around rest) (front rest) p.ForIn from to (Cons x (Cons e (Cons t Nil))) g.1
        (fits_three a [] x e t (g.0 a []) (ge a [])
        (subst (λ (z : List Symbol). Fits (around z) (front z) t) is gt))

pub for_start_open : (from : ℕ) (s : List Symbol) (vs : List Tree) →
    Opens (n.ForStart from) (T w.Semicolon ∷ Part n.ForTest ∷ Part n.ForUpdate ∷
    Part n.Statement ∷ node p.For from 4 ∷ []) s vs
for_start_open from s [] h = absurd h
for_start_open from s (x ∷ vs) (g, k) = λ c gc d gd t gt z.
    k (Made p.For from z.before (Cons x (Cons c (Cons d (Cons t Nil)))))
    (λ rest is.
    let a = in_loop (front rest) (around rest) in
    fits_made (around rest) (front rest) p.For from z.before (Cons x (Cons c (Cons d (Cons t Nil)))) refl
    (and_from (runs.all_fit a [] x) (runs.all_fit a [] (Cons c (Cons d (Cons t Nil)))) (g a [])
    (fits_three a [] c d t (gc a []) (gd a [])
    (subst (λ (y : List Symbol). Fits (around y) (front y) t) is gt))))

pub for_test_open : (v : Seen) (s : List Symbol) (vs : List Tree) →
    Opens n.ForTest (for_test v) s vs
for_test_open (seen.Word w.Semicolon) s vs k = λ z. k Missing free_missing
for_test_open _ s vs k = k

pub for_update_open : (v : Seen) (s : List Symbol) (vs : List Tree) →
    Opens n.ForUpdate (for_update v) s vs
for_update_open (seen.Word w.CloseParen) s vs k = λ z. k Missing free_missing
for_update_open _ s vs k = k

-- Jumps -------------------------------------------------------------------------------------------

module _ (q : Production) (s : List Symbol) (vs : List Tree) (from : ℕ)
    (k : (t : Tree) → FitsAlways s t → Leads s (t ∷ vs)) where
  unlabelled_leads : (there : Bool) →
      (there ≡ true → (a b : ℕ) → FitsAlways s (Made q a b (Cons Missing Nil))) →
      Leads (unlabelled there q from ++ s) vs
  unlabelled_leads there fit =
      by_if there _ _ s vs
      (λ e y z. k (Made q from z.before (Cons Missing Nil)) (fit e from z.before)) (λ e. tt)

  labelled_leads : (to : Bool) (u : Sight) →
      (to ≡ true → (a b : ℕ) → FitsAlways s (Made q a b (Cons (Word u.text) Nil))) →
      Leads (labelled to q from u ++ s) vs
  labelled_leads to u fit =
      by_if to _ _ s vs
      (λ e y z. k (Made q from z.before (Cons (Word u.text) Nil)) (fit e from z.before)) (λ e. tt)

  jump_leads : (there to : Bool) (u : Sight) (v : Seen) →
      (there ≡ true → (a b : ℕ) → FitsAlways s (Made q a b (Cons Missing Nil))) →
      (to ≡ true → (a b : ℕ) → FitsAlways s (Made q a b (Cons (Word u.text) Nil))) →
      Leads (jump there to q from u v ++ s) vs
  jump_leads there to u (seen.Word w.Name) f g =
      by_if u.line_before _ _ s vs
      (λ e. unlabelled_leads there f) (λ e. labelled_leads to u g)
  jump_leads there to u _ f g = unlabelled_leads there f

-- a jump fits where it leads somewhere
jump_fits : (b : Bool) → b ≡ true → (b && true) ≡ true
jump_fits true e = refl
jump_fits false e = e

pub continue_open : (from : ℕ) (u : Sight) (v : Seen) (s : List Symbol) (vs : List Tree) →
    Opens (n.ContinueTo from) (jump (continues s) (continues_to u.text s) p.Continue from u v) s vs
continue_open from u v s vs k =
    jump_leads p.Continue s vs from k (continues s) (continues_to u.text s) u v
    (λ e a b f. jump_fits (around s).is_continued (sym (continues_around s) ∙ e))
    (λ e a b f. jump_fits (is_among u.text (around s).loop_labels)
    (sym (continues_to_around u.text s) ∙ e))

pub break_open : (from : ℕ) (u : Sight) (v : Seen) (s : List Symbol) (vs : List Tree) →
    Opens (n.BreakTo from) (jump (breaks s) (breaks_to u.text s) p.Break from u v) s vs
break_open from u v s vs k =
    jump_leads p.Break s vs from k (breaks s) (breaks_to u.text s) u v
    (λ e a b f. jump_fits (around s).is_broken (sym (breaks_around s) ∙ e))
    (λ e a b f. jump_fits (is_among u.text (around s).labels)
    (sym (breaks_to_around u.text s) ∙ e))

returned_fits : (s : List Symbol) (from to : ℕ) (t : Tree) → IsFree t → in_function s ≡ true →
    FitsAlways s (Made p.Return from to (Cons t Nil))
returned_fits s from to t g e f =
    fits_made (around s) f p.Return from to (Cons t Nil) (sym (returns_around s) ∙ e)
    (fits_one (around s) [] t (g (around s) []))

value_returned : (from : ℕ) (s : List Symbol) (vs : List Tree) →
    Opens (n.Returned from) (Part (n.Expression Full) ∷ Semicolon ∷ node p.Return from 1 ∷ []) s vs
value_returned from s vs k = λ t g z.
    k (Made p.Return from z.before (Cons t Nil)) (returned_fits s from z.before t g)

none_returned : (from : ℕ) (s : List Symbol) (vs : List Tree) →
    Opens (n.Returned from) (missing ∷ Semicolon ∷ node p.Return from 1 ∷ []) s vs
none_returned from s vs k = λ y z.
    k (Made p.Return from z.before (Cons Missing Nil))
    (returned_fits s from z.before Missing free_missing)

returned_if : (b : Bool) (from : ℕ) (s : List Symbol) (vs : List Tree) →
    Opens (n.Returned from) (if b then missing ∷ Semicolon ∷ node p.Return from 1 ∷ [] else
    Part (n.Expression Full) ∷ Semicolon ∷ node p.Return from 1 ∷ []) s vs
returned_if true from s vs k = none_returned from s vs k
returned_if false from s vs k = value_returned from s vs k

pub returned_open : (from : ℕ) (u : Sight) (v : Seen) (s : List Symbol) (vs : List Tree) →
    Opens (n.Returned from) (returned_by from u v) s vs
returned_open from u (seen.Word w.Semicolon) s vs k = none_returned from s vs k
returned_open from u _ s vs k = returned_if (may_insert u) from s vs k

pub thrown_open : (from : ℕ) (u : Sight) (s : List Symbol) (vs : List Tree) →
    Opens (n.Thrown from) (thrown from u) s vs
thrown_open from u s vs k =
    by_if (may_insert u) (Never ∷ []) _ s vs (λ e. tt)
    (λ e t g z. k (Made p.Throw from z.before (Cons t Nil))
    (free_statement p.Throw from z.before t (λ a. refl) g))

-- Switches and handlers ---------------------------------------------------------------------------

pub cases_open : (d : Bool) (v : Seen) (s : List Symbol) (vs : List Tree) →
    Opens (n.Cases d) (cases d v) s vs
cases_open d v s [] h = absurd h
cases_open d (seen.Word w.Case) s (l ∷ vs) (g, k) = λ e ge y. (
  refl,
  λ t gt x z. (
    fits_behind (around s) [] l (Cons e (Cons t Nil)) g
        (fits_two (around s) [] e t (ge (around s) []) gt),
    k,
  ),
)
cases_open false (seen.Word w.Default) s (l ∷ vs) (g, k) = λ a b. (
  refl,
  λ t gt x z. (
    fits_behind (around s) [] l (Cons Missing (Cons t Nil)) g
        (fits_two (around s) [] Missing t refl gt),
    k,
  ),
)
cases_open true _ s (l ∷ vs) (g, k) = k l g
cases_open false _ s (l ∷ vs) (g, k) = k l g

pub handlers_open : (from : ℕ) (v : Seen) (s : List Symbol) (vs : List Tree) →
    Opens (n.Handlers from) (handlers from v) s vs
handlers_open from v s [] h = absurd h
handlers_open from (seen.Word w.Catch) s (l ∷ vs) (g, k) = λ t gt b gb z.
    (fits_two (around s) [] t b (free_of_word t gt (around s) []) gb, g, k)
handlers_open from (seen.Word w.Finally) s (l ∷ vs) (g, k) = λ y b gb z.
    k (Made p.Try from z.before (Cons l (Cons Missing (Cons b Nil))))
    (λ f. fits_three (around s) [] l Missing b g refl gb)
handlers_open from _ s (l ∷ vs) (g, k) = tt

pub finally_open : (from : ℕ) (v : Seen) (s : List Symbol) (vs : List Tree) →
    Opens (n.Finally from) (finally from v) s vs
finally_open from v s [] h = absurd h
finally_open from v s (c ∷ []) h = absurd h
finally_open from (seen.Word w.Finally) s (c ∷ l ∷ vs) (gc, g, k) = λ b gb z.
    k (Made p.Try from z.before (Cons l (Cons c (Cons b Nil))))
    (λ f. fits_three (around s) [] l c b g gc gb)
finally_open from _ s (c ∷ l ∷ vs) (gc, g, k) = λ y z.
    k (Made p.Try from z.before (Cons l (Cons c (Cons Missing Nil))))
    (λ f. fits_three (around s) [] l c Missing g gc refl)
