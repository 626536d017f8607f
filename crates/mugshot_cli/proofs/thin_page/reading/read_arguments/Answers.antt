use Rattle.std.proofs.Common.{◌≡◌, ◌∙◌, ◌∷◌, [], ◌++◌, ◌≤◌, List, ℕ, length, refl, sym, ap, subst, arith, lit<, rules, inr, length-append}
use Rattle.mugshot_cli.specs.ThinPage.inner.Parts.{HasArguments}
use Rattle.mugshot_cli.specs.ThinPage.Reading.{IsArgument, argument_text}
use Rattle.mugshot_cli.specs.declared.thin_page.reading.Argument.{Argument}
use Rattle.mugshot_cli.proofs.ThinPage.Arguments.{EndsCall, arguments, has_arguments, listed}
use Rattle.mugshot_cli.proofs.ThinPage.Joined.{Reached, longer, not_begun, other_front, reached_end, reached_more}
use Rattle.mugshot_cli.proofs.thin_page.reading.read_arguments.Goals as goal

pub returns-in_default : goal.returns-in_default
returns-in_default c =
    λ xs more has.
    not_begun arguments c.args.bytes.now c.arguments.arguments.items c.arguments.rest.now c.arguments.invariant.1 c.in_default.ensures xs (41 ∷ more) has.valid (more, refl) (listed c.args.bytes.now xs more has)

pub returns-in-Some-past : goal.returns-in-Some-past
returns-in-Some-past c =
    let done = c.arguments.arguments.items in
    let argument = c.in-Some.argument in
    let behind = c.in-Some-past.behind.now in
    let read = c.in-Some.ensures in
    let pushed : c.push.new.self.items ≡ done ++ argument ∷ [] = search rules in
    let few : length (done ++ argument ∷ []) ≤ 8 = omega (arith, length-append done (argument ∷ [])) in
    let both = reached_end c.args.bytes.now done c.arguments.rest.now argument (41 ∷ behind) c.arguments.invariant.1 read.0 (read.2 ∙ ap (λ (l : List ℕ). argument_text argument ++ l) c.in-Some-past.ensures) in
    subst (λ (xs : List Argument). HasArguments c.args.bytes.now xs behind) (sym (c.of.ensures ∙ pushed)) (has_arguments c.args.bytes.now (done ++ argument ∷ []) behind few both.0 both.1)

pub arguments-preserved : goal.arguments-preserved
arguments-preserved c =
    let done = c.arguments.arguments.items in
    let argument = c.in-Some.argument in
    let next = c.in-Some-past-2.next.now in
    let read = c.in-Some.ensures in
    let pushed : c.push.new.self.items ≡ done ++ argument ∷ [] = search rules in
    let few : length (done ++ argument ∷ []) ≤ 8 = omega (arith, length-append done (argument ∷ [])) in
    let reached =
    reached_more arguments c.args.bytes.now done c.arguments.rest.now argument next c.arguments.invariant.1 read.0 (λ ends. other_front 44 41 _ _ (inr (lit< tt)) ends.1) (read.2 ∙ ap (λ (l : List ℕ). argument_text argument ++ l) c.in-Some-past-2.ensures) in
    subst (λ (xs : List Argument). (length xs ≤ 8) × Reached argument_text IsArgument 44 EndsCall c.args.bytes.now xs next) (sym pushed) (few, reached)

pub returns : goal.returns
returns c =
    λ xs more has.
    let long = longer c.args.bytes.now c.arguments.arguments.items c.arguments.rest.now c.arguments.invariant.1 xs (41 ∷ more) has.valid (more, refl) (listed c.args.bytes.now xs more has) in
    omega (arith, long, has.few, c.arguments-test.false)
