use Rattle.js_frames.proofs.FreeRows.{past, within}
use Rattle.js_frames.proofs.rows.is_past.Goals as goal

pub returns-in-Some : goal.returns-in-Some
returns-in-Some c = λ a. within a c.args.declarators.now c.args.at c.in-Some.ensures.lookup.3.0

pub returns-in-None : goal.returns-in-None
returns-in-None c = λ a. past a c.args.declarators.now c.args.at c.in-None.ensures.lookup.3
