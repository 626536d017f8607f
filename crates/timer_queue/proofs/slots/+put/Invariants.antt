use Rattle.std.proofs.Common.{◌+◌, ◌*◌, length}
use Rattle.timer_queue.proofs.slots.+put.Given as goal

abbrev pub decreases-put : goal.decreases-put
decreases-put l = 2 * length l.slots.now + 1

abbrev pub decreases-put_below : goal.decreases-put_below
decreases-put_below l = 2 * length l.slots.now
