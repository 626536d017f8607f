use Rattle.std.proofs.Common.{◌≡◌, ◌∙◌, ◌∷◌, [], ◌++◌, List, ℕ, IsTrue, true, false, sym, ap, subst, rules}
use Rattle.mugshot_cli.specs.ThinPage.inner.Parts.{AreStatements}
use Rattle.mugshot_cli.specs.ThinPage.Reading.{EndsScript, IsStatement, statement_text}
use Rattle.mugshot_cli.specs.declared.thin_page.reading.Statement.{Statement}
use Rattle.mugshot_cli.proofs.ThinPage.Joined.{Reached, not_begun, not_behind, reached_end, reached_more}
use Rattle.mugshot_cli.proofs.ThinPage.Statements.{are_statements, listed, statements}
use Rattle.mugshot_cli.proofs.thin_page.reading.read_statements.Goals as goal

pub returns-in-Ok-None : goal.returns-in-Ok-None
returns-in-Ok-None c =
    λ xs are.
    let none = rw c.in-Ok-None.field-0-is at c.in-Ok-None.ensures in
    not_begun statements c.args.bytes.now c.statements.statements.items c.statements.rest.now c.statements.invariant (λ s m valid any e. none s m (record { valid = valid; is = e })) xs are.end are.valid are.ends (listed c.args.bytes.now xs are)

pub returns-then-ends_script : goal.returns-then-ends_script
returns-then-ends_script c =
    let done = c.statements.statements.items in
    let found = c.in-Ok-Some.read.0 in
    let more = c.in-Ok-Some.read.1.now in
    let has = rw c.in-Ok-Some.field-0-is at c.in-Ok-Some.ensures in
    let yes : IsTrue true = search rules in
    let pushed : c.push.new.self.items ≡ done ++ found ∷ [] = search rules in
    let both = reached_end c.args.bytes.now done c.statements.rest.now found more c.statements.invariant has.valid has.is in
    subst (λ (xs : List Statement). AreStatements c.args.bytes.now xs) (sym (c.of.ensures ∙ pushed)) (are_statements c.args.bytes.now (done ++ found ∷ []) more both.0 (c.if-ends_script.ensures.0 yes) both.1)

pub returns-in_default : goal.returns-in_default
returns-in_default c =
    λ xs are.
    let has = rw c.in-Ok-Some.field-0-is at c.in-Ok-Some.ensures in
    not_behind statements c.args.bytes.now c.statements.statements.items c.statements.rest.now c.in-Ok-Some.read.0 c.in-Ok-Some.read.1.now c.statements.invariant has.valid tt has.is
    (λ ends. let no : IsTrue false = c.if-ends_script.ensures.1 ends in cc) c.in_default.ensures xs are.end are.valid are.ends (listed c.args.bytes.now xs are)

pub statements-preserved : goal.statements-preserved
statements-preserved c =
    let done = c.statements.statements.items in
    let found = c.in-Ok-Some.read.0 in
    let next = c.in-Some.next.now in
    let has = rw c.in-Ok-Some.field-0-is at c.in-Ok-Some.ensures in
    let pushed : c.push.new.self.items ≡ done ++ found ∷ [] = search rules in
    let reached =
    reached_more statements c.args.bytes.now done c.statements.rest.now found next c.statements.invariant has.valid
    (λ ends. let no : IsTrue false = c.if-ends_script.ensures.1 (subst EndsScript (sym c.in-Some.ensures) ends) in cc) (has.is ∙ ap (λ (l : List ℕ). statement_text found ++ l) c.in-Some.ensures) in
    subst (λ (xs : List Statement). Reached statement_text IsStatement 59 EndsScript c.args.bytes.now xs next) (sym pushed) reached
