use Rattle.mugshot_cli.specs.Capturing.{IsOtherPage}
use Rattle.mugshot_cli.proofs.CaptureOutcome.{told_of}
use Rattle.mugshot_cli.proofs.sources.statements_of.Goals as goal

pub returns-clause-refused : goal.returns-clause-refused
returns-clause-refused c = λ before after is.
    told_of IsOtherPage before.left c.args.page.now is
    (record { page = record { within = c.requires; units = c.in_ok-_text._text; text = c.in_ok-_text.ensures.ok }; other = rw c.in-None.is at c.in_ok-statements.ensures })
