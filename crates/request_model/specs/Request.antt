-- One XMLHttpRequest object (XMLHttpRequest Standard, 3): unsent, opened or done; the states 2 and
-- 3 are left out.
use Rattle.std.specs.Prelude.{ℕ, Bool, true, false, is_some, List, [], Option, Some, None}
pub use Rattle.request_model.specs.declared.request.Request.{Request}
use Rattle.request_model.specs.declared.request.Request.TheVariants.{Unsent, Opened, Done}

-- the state's number (3.6.1)
abbrev pub ready_state : Request → ℕ
ready_state Unsent = 0
ready_state (Opened m u f) = 1
ready_state (Done s t) = 4

-- the status of the reply, and 0 where there is none (3.6.3)
abbrev pub status : Request → ℕ
status Unsent = 0
status (Opened m u f) = 0
status (Done s t) = s

abbrev pub or_empty : Option (List ℕ) → List ℕ
or_empty None = []
or_empty (Some t) = t

-- the response text (3.6.9)
abbrev pub text : Request → List ℕ
text Unsent = []
text (Opened m u f) = []
text (Done s t) = or_empty t

-- the flight for which it waits
abbrev pub flight_of : Request → Option ℕ
flight_of Unsent = None
flight_of (Opened m u f) = f
flight_of (Done s t) = None

abbrev pub waits : Request → Bool
waits o = is_some (flight_of o)

-- it is opened and wasn't sent since
abbrev pub can_send : Request → Bool
can_send Unsent = false
can_send (Opened m u None) = true
can_send (Opened m u (Some n)) = false
can_send (Done s t) = false

-- after it was sent under this number
abbrev pub waiting : ℕ → Request → Request
waiting n Unsent = Unsent
waiting n (Opened m u f) = Opened m u (Some n)
waiting n (Done s t) = Done s t

-- after `abort` (3.5.7): done with status 0 where it was in flight; a done one is unsent, with
-- status 0 and an empty text; any other stays
abbrev pub after_abort : Request → Request
after_abort Unsent = Unsent
after_abort (Opened m u None) = Opened m u None
after_abort (Opened m u (Some n)) = Done 0 None
after_abort (Done s t) = Unsent
