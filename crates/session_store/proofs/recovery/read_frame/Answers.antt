use Rattle.std.proofs.Common.{rules}
use Rattle.session_store.proofs.Frames.{frame_reads, frame_stands_not}
use Rattle.session_store.proofs.recovery.read_frame.Goals as goal

pub returns-then-not-may_stand : goal.returns-then-not-may_stand
returns-then-not-may_stand c = λ before log is.
    let read = rw c.in-Some.is at c.in_ok-group.ensures in
    frame_stands_not before c.args.items.now.items c.in-Some.group.items c.args.payload.now c.is_empty-first.result log is (search rules) read.0 read.1 (search rules)

pub returns : goal.returns
returns c = λ before log is.
    let read = rw c.in-Some.is at c.in_ok-group.ensures in
    frame_reads before c.args.items.now.items c.append.new.self.items c.in-Some.group.items c.args.payload.now c.is_empty-first.result log is (search rules) read.0 read.1 (search rules) (search rules)
