use Rattle.request_model.proofs.Flights.{reply_over, failure_over, abort_over, open_over}
use Rattle.request_model.proofs.laws.what_ends_a_flight.Goals as goal

pub returns-clause-reply : goal.returns-clause-reply
returns-clause-reply c = reply_over

pub returns-clause-failure : goal.returns-clause-failure
returns-clause-failure c = failure_over

pub returns-clause-abort : goal.returns-clause-abort
returns-clause-abort c = abort_over

pub returns-clause-open : goal.returns-clause-open
returns-clause-open c = open_over
