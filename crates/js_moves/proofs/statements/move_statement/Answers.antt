use Rattle.std.proofs.Common.{subst, sym}
use Rattle.std.specs.Prelude.{OnOk}
use Rattle.js_moves.specs.inner.StmtPlaces.{Moves}
use Rattle.js_moves.proofs.statements.move_statement.Goals as goal

pub returns-in-Becomes : goal.returns-in-Becomes
returns-in-Becomes g c = λ dispatched w.
    subst (λ m. OnOk c.become_perhaps.result (Moves dispatched c.args.texts.now w c.args.stack.now m
    c.become_perhaps.new.stack)) (sym c.in-Becomes.is) (c.become_perhaps.ensures dispatched w)

pub returns-in-GoesOn : goal.returns-in-GoesOn
returns-in-GoesOn g c = λ dispatched w.
    subst (λ m. OnOk c.go_on.result (Moves dispatched c.args.texts.now w c.args.stack.now m
    c.go_on.new.stack)) (sym c.in-GoesOn.is) (c.go_on.ensures dispatched c.args.texts.now w)

pub returns-in-Names : goal.returns-in-Names
returns-in-Names g c = λ dispatched w.
    subst (λ m. Moves dispatched c.args.texts.now w c.args.stack.now m c.go_on_names.new.stack)
    (sym c.in-Names.is) (c.go_on_names.ensures dispatched c.args.texts.now w)

pub returns-in-Finally : goal.returns-in-Finally
returns-in-Finally g c = λ dispatched w.
    subst (λ m. Moves dispatched c.args.texts.now w c.args.stack.now m c.go_on_finally.new.stack)
    (sym c.in-Finally.is) (c.go_on_finally.ensures dispatched c.args.texts.now w)
