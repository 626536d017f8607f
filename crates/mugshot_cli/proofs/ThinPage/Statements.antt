-- The text of a statement is determined by the bytes, whatever stands behind it, and so are a page's statements.
use Rattle.std.proofs.Common.{◌≡◌, ◌≢◌, ℕ, inl, inr, List, [], ◌∷◌, ◌++◌, drop, map, All, codes, Option, None, Some, Result, Ok, Err, IfOk, MatchOption, refl, sym, ◌∙◌, ap, subst, lit<, append_assoc}
use Rattle.std.proofs.lemmas.List.{append_cancel_left}
use Rattle.mugshot_cli.specs.ThinPage.inner.Parts.{AreStatements, HasArguments, HasStatement}
use Rattle.mugshot_cli.specs.ThinPage.Reading.{EndsScript, IsScript, IsStatement, IsThin, argument_text, joined, statement_text}
use Rattle.mugshot_cli.specs.declared.thin_page.reading.Argument.{Argument}
use Rattle.mugshot_cli.specs.declared.thin_page.reading.Statement.{Statement}
use Rattle.mugshot_cli.specs.declared.thin_page.reading.Statement.TheVariants.{Now, Rand, Log}
use Rattle.mugshot_cli.proofs.ThinPage.Joined.{Lists, Parts, joined_from_lists, lists_from_joined, nonempty, other_front, same_list}
use Rattle.mugshot_cli.proofs.ThinPage.Arguments.{arguments}

-- a call with its arguments, and what stands behind it
log_text : (xs : List Argument) (m : List ℕ) → statement_text (Log xs) ++ m ≡ codes "console.log(" ++ (joined 44 (map argument_text xs) ++ 41 ∷ m)
log_text xs m =
    append_assoc (codes "console.log(") (joined 44 (map argument_text xs) ++ 41 ∷ []) m ∙ ap (λ (l : List ℕ). codes "console.log(" ++ l) (append_assoc (joined 44 (map argument_text xs)) (41 ∷ []) m)

pub logs : (bytes inner : List ℕ) (xs : List Argument) (m : List ℕ) → bytes ≡ codes "console.log(" ++ inner → HasArguments inner xs m → HasStatement bytes (Log xs) m
logs bytes inner xs m is has =
    record { valid = (has.some, has.few, has.valid); is = is ∙ ap (λ (l : List ℕ). codes "console.log(" ++ l) has.is ∙ sym (log_text xs m) }

pub logged : (bytes : List ℕ) (xs : List Argument) (m : List ℕ) → HasStatement bytes (Log xs) m → (inner : List ℕ) × (bytes ≡ codes "console.log(" ++ inner) × HasArguments inner xs m
logged bytes xs m has =
    (joined 44 (map argument_text xs) ++ 41 ∷ m, has.is ∙ log_text xs m, record { some = has.valid.0; few = has.valid.1; valid = has.valid.2; is = refl })

pub same_statement : (s t : Statement) (m n : List ℕ) → IsStatement s → IsStatement t → statement_text s ++ m ≡ statement_text t ++ n → (s ≡ t) × (m ≡ n)
same_statement Now Now m n vs vt e = (refl, append_cancel_left (codes "Date.now()") m n e)
same_statement Now Rand m n vs vt e = absurd (other_front 68 77 _ _ (inl (lit< tt)) e)
same_statement Now (Log ys) m n vs vt e = absurd (other_front 68 99 _ _ (inl (lit< tt)) e)
same_statement Rand Now m n vs vt e = absurd (other_front 77 68 _ _ (inr (lit< tt)) e)
same_statement Rand Rand m n vs vt e = (refl, append_cancel_left (codes "Math.random()") m n e)
same_statement Rand (Log ys) m n vs vt e = absurd (other_front 77 99 _ _ (inl (lit< tt)) e)
same_statement (Log xs) Now m n vs vt e = absurd (other_front 99 68 _ _ (inr (lit< tt)) e)
same_statement (Log xs) Rand m n vs vt e = absurd (other_front 99 77 _ _ (inr (lit< tt)) e)
same_statement (Log xs) (Log ys) m n vs vt e =
    let inner = append_cancel_left (codes "console.log(") (joined 44 (map argument_text xs) ++ 41 ∷ m) (joined 44 (map argument_text ys) ++ 41 ∷ n) (sym (log_text xs m) ∙ e ∙ log_text ys n) in
    let first = lists_from_joined argument_text 44 _ xs (41 ∷ m) vs.0 refl in
    let second = lists_from_joined argument_text 44 _ ys (41 ∷ n) vt.0 inner in
    let same = same_list arguments _ xs ys (41 ∷ m) (41 ∷ n) vs.2 vt.2 (m, refl) (n, refl) first second in
    (ap (λ (zs : List Argument). Log zs) same.0, ap (λ (l : List ℕ). drop 1 l) same.1)

-- none of the three stands in front
pub no_front : (bytes : List ℕ) → ((m : List ℕ) → bytes ≢ codes "Date.now()" ++ m) → ((m : List ℕ) → bytes ≢ codes "Math.random()" ++ m)
    → ((inner : List ℕ) (xs : List Argument) (m : List ℕ) → bytes ≡ codes "console.log(" ++ inner → HasArguments inner xs m → ⊥) → (s : Statement) (m : List ℕ) → HasStatement bytes s m → ⊥
no_front bytes no_now no_rand no_log Now m has = no_now m has.is
no_front bytes no_now no_rand no_log Rand m has = no_rand m has.is
no_front bytes no_now no_rand no_log (Log xs) m has = let log = logged bytes xs m has in no_log log.0 xs m log.1 log.2

no_statement : (s : Statement) (m : List ℕ) → statement_text s ++ m ≡ codes "</script>" → ⊥
no_statement Now m e = other_front 68 60 _ _ (inr (lit< tt)) e
no_statement Rand m e = other_front 77 60 _ _ (inr (lit< tt)) e
no_statement (Log xs) m e = other_front 99 60 _ _ (inr (lit< tt)) e

ends_apart : (s : Statement) (m : List ℕ) → EndsScript (59 ∷ (statement_text s ++ m)) → ⊥
ends_apart s m (inl e) = other_front 59 60 _ _ (inl (lit< tt)) e
ends_apart s m (inr e) = no_statement s m (ap (λ (l : List ℕ). drop 1 l) e)

-- whatever follows
abbrev pub Any : List ℕ → Type 0
Any m = Unit {0}

pub statements : Parts statement_text IsStatement 59 Any EndsScript
statements =
    record { front = λ s t m n vs vt am an e. same_statement s t m n vs vt e; parted = λ m. tt; ended = λ m ends. tt; apart = λ s m valid ends. ends_apart s m ends }

pub listed : (bytes : List ℕ) (xs : List Statement) (are : AreStatements bytes xs) → Lists statement_text 59 bytes xs are.end
listed bytes xs are = lists_from_joined statement_text 59 bytes xs are.end are.some are.is

pub are_statements : (bytes : List ℕ) (xs : List Statement) (end : List ℕ) → All IsStatement xs → EndsScript end → Lists statement_text 59 bytes xs end → AreStatements bytes xs
are_statements bytes xs end valid ends lists =
    let both = joined_from_lists statement_text 59 bytes xs end lists in record { some = both.0; valid = valid; end = end; ends = ends; is = both.1 }

-- a page from its script, and back
pub thin_script : (page inner : List ℕ) (xs : List Statement) → page ≡ codes "<script>" ++ inner → AreStatements inner xs → IsThin page xs
thin_script page inner xs is are =
    inr (record { some = are.some; valid = are.valid; end = are.end; ends = are.ends; is = is ∙ ap (λ (l : List ℕ). codes "<script>" ++ l) are.is })

pub script_of : (page : List ℕ) (xs : List Statement) → IsScript page xs → (inner : List ℕ) × (page ≡ codes "<script>" ++ inner) × AreStatements inner xs
script_of page xs script = (_, script.is, record { some = script.some; valid = script.valid; end = script.end; ends = script.ends; is = refl })

same_script : (page : List ℕ) (a b : List Statement) → IsScript page a → IsScript page b → a ≡ b
same_script page a b first second =
    let one = script_of page a first in
    let two = script_of page b second in
    let inner : one.0 ≡ two.0 = append_cancel_left (codes "<script>") one.0 two.0 (sym one.1 ∙ two.1) in
    let again = subst (λ (l : List ℕ). AreStatements l b) (sym inner) two.2 in
    (same_list statements one.0 a b one.2.end again.end one.2.valid again.valid one.2.ends again.ends (listed one.0 a one.2) (listed one.0 b again)).0

-- a page is of one list of statements
pub same_page : (bytes : List ℕ) (a b : List Statement) → IsThin bytes a → IsThin bytes b → a ≡ b
same_page bytes a b (inl first) (inl second) = first.1 ∙ sym second.1
same_page bytes a b (inl first) (inr second) = absurd (nonempty _ _ (sym first.0 ∙ second.is))
same_page bytes a b (inr first) (inl second) = absurd (nonempty _ _ (sym second.0 ∙ first.is))
same_page bytes a b (inr first) (inr second) = same_script bytes a b first second

no_script : (page inner : List ℕ) → page ≡ codes "<script>" ++ inner → ((xs : List Statement) → AreStatements inner xs → ⊥) → (xs : List Statement) → IsThin page xs → ⊥
no_script page inner is none xs (inl empty) = nonempty _ _ (sym empty.0 ∙ is)
no_script page inner is none xs (inr script) =
    let own = script_of page xs script in
    let same : own.0 ≡ inner = append_cancel_left (codes "<script>") own.0 inner (sym own.1 ∙ is) in
    none xs (subst (λ (l : List ℕ). AreStatements l xs) same own.2)

-- what the reader of the script answers is what the reader of the page answers
pub page_answer : {E : Type 0} (page inner : List ℕ) (r : Result (Option (List Statement)) E) → page ≡ codes "<script>" ++ inner
    → IfOk r (λ found. MatchOption found ((xs : List Statement) → AreStatements inner xs → ⊥) (λ xs. AreStatements inner xs))
    → IfOk r (λ found. MatchOption found ((xs : List Statement) → IsThin page xs → ⊥) (λ xs. IsThin page xs))
page_answer page inner (Ok None) is none = no_script page inner is none
page_answer page inner (Ok (Some xs)) is are = thin_script page inner xs is are
page_answer page inner (Err e) is h = tt
