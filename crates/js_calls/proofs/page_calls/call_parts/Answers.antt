use Rattle.js_reference.proofs.There.{still_there}
use Rattle.js_stmt.proofs.MoveRows.{back_there, front_there}
use Rattle.js_calls.proofs.page_calls.call_parts.Goals as goal

pub returns-then-not-call_fits-clause-there : goal.returns-then-not-call_fits-clause-there
returns-then-not-call_fits-clause-there g c =
    let w = c.args.heap.now in
    let vs = g.H.Host.names.host c.args.host.now in (
      c.in_ok-error.ensures.there,
      still_there w c.new_error.new.heap vs c.in_ok-error.ensures.more
          (back_there w c.args.call.args vs c.requires.there.1.1),
    )

pub into_new-requires-clause-there : goal.into_new-requires-clause-there
into_new-requires-clause-there g c = (
  c.in_ok-callee.ensures.there,
  front_there c.args.heap.now c.args.call.args (g.H.Host.names.host c.args.host.now)
      c.requires.there.1.1,
)

pub into_new-requires-clause-host : goal.into_new-requires-clause-host
into_new-requires-clause-host g c =
    back_there c.args.heap.now c.args.call.args (g.H.Host.names.host c.args.host.now)
    c.requires.there.1.1

pub into_call-requires-clause-there : goal.into_call-requires-clause-there
into_call-requires-clause-there g c = (
  c.in_ok-callee.ensures.there,
  front_there c.args.heap.now c.args.call.args (g.H.Host.names.host c.args.host.now)
      c.requires.there.1.1,
)

pub into_call-requires-clause-host : goal.into_call-requires-clause-host
into_call-requires-clause-host g c =
    back_there c.args.heap.now c.args.call.args (g.H.Host.names.host c.args.host.now)
    c.requires.there.1.1
