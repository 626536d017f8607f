use Rattle.std.proofs.Common.{rules}
use Rattle.input_log.proofs.Heads.{begins, head_first, only_load, only_now, only_rand}
use Rattle.input_log.proofs.reading.decode.Goals as goal

pub returns-in-0 : goal.returns-in-0
returns-in-0 c = head_first c.args.bytes.now _ c.head_at.result (begins c.args.bytes.now _ 0 c.in-0.len_at_least (search rules) (search rules)) c.head_at.ensures

pub returns-in-None : goal.returns-in-None
returns-in-None c = only_load c.args.bytes.now _ (begins c.args.bytes.now _ 3 c.in-3.len_at_least (search rules) (search rules)) c.in-None.ensures

pub returns-in-None-time_at : goal.returns-in-None-time_at
returns-in-None-time_at c = only_now c.args.bytes.now _ (begins c.args.bytes.now _ 9 c.in-9.len_at_least (search rules) (search rules)) c.in-None-time_at.ensures

pub returns-in-None-word_at : goal.returns-in-None-word_at
returns-in-None-word_at c = only_rand c.args.bytes.now _ (begins c.args.bytes.now _ 10 c.in-10.len_at_least (search rules) (search rules)) c.in-None-word_at.ensures
