use Rattle.js_calls.proofs.Runnable.{runnable_program, runnable_read}
use Rattle.js_calls.proofs.laws.a_runnable_text_is_read.Goals as goal

pub returns : goal.returns
returns c = record { functions = runnable_read; program = runnable_program }
