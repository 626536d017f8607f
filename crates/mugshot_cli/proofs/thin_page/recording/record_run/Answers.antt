use Rattle.mugshot_cli.proofs.thin_page.recording.record_run.Goals as goal

pub returns-in-Ok-Finished : goal.returns-in-Ok-Finished
returns-in-Ok-Finished g c = let records = rw c.in-Ok-Finished.field-0-is at c.in-Ok-Finished.ensures in records c.args.budget

pub returns-in-Ok-Budget : goal.returns-in-Ok-Budget
returns-in-Ok-Budget g c = let records = rw c.in-Ok-Budget.field-0-is at c.in-Ok-Budget.ensures in records c.args.budget
