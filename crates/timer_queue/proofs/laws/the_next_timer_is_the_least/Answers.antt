use Rattle.timer_queue.proofs.Least.{is_next}
use Rattle.timer_queue.proofs.laws.the_next_timer_is_the_least.Goals as goal

pub returns : goal.returns
returns c = is_next
