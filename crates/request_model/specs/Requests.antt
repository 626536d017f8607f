-- The requests of a page: its objects, each by its place, and its flights, each by its number, from
-- 1 on.
use Rattle.std.specs.Prelude.{◌≡◌, ℕ, zero, suc, ◌+◌, ◌<◌, ◌≤◌, ◌==◌, ◌&&◌, Bool, true, false, List, [], ◌∷◌, ◌++◌, length, All, Option, Some, None, slice_get, slice_set}
use Rattle.std.specs.Option.{option_and_then, option_map_or}
use Rattle.request_model.specs.Request.{Request, flight_of, can_send, after_abort}
use Rattle.request_model.specs.declared.fault.TheConstants.{REQUEST_LIMIT}
use Rattle.request_model.specs.declared.request.Request.TheVariants.{Unsent, Opened, Done}
-- what was sent: the object, and the method and the URL that its last `open` before was given
pub use Rattle.request_model.specs.declared.request.Flight.{Flight}

pub record RequestList : Type 0 where
  pub requests : List Request
  pub flights : List Flight

abbrev pub no_requests : RequestList
no_requests = record { requests = []; flights = [] }

-- what was sent under this number
abbrev pub flight_in : ℕ → List Flight → Option Flight
flight_in zero fs = None
flight_in (suc n) fs = slice_get fs n

abbrev pub flight_at : ℕ → RequestList → Option Flight
flight_at r q = flight_in r q.flights

abbrev pub is_number : ℕ → Option ℕ → Bool
is_number r None = false
is_number r (Some n) = n == r

-- the object of this place waits for this flight
abbrev pub is_waited_for : ℕ → List Request → ℕ → Bool
is_waited_for r os x = is_number r (option_and_then flight_of (slice_get os x))

-- the object that sent it still waits for it
abbrev pub is_in_flight : ℕ → RequestList → Bool
is_in_flight r q = option_map_or (λ f. is_waited_for r q.requests f.request) (flight_at r q) false

-- it is a flight of the object of this place
abbrev pub is_flight_of : ℕ → ℕ → RequestList → Bool
is_flight_of x r q = option_map_or (λ f. f.request == x) (flight_at r q) false && is_in_flight r q

abbrev pub with_request : ℕ → Request → RequestList → RequestList
with_request x o q = record q { requests = slice_set q.requests x o }

-- one more object
abbrev pub made : RequestList → RequestList
made q = record q { requests = q.requests ++ Unsent ∷ [] }

-- after `open` (XMLHttpRequest Standard, 3.5.1): a flight is given up, the status is 0 and the text
-- empty
abbrev pub opened : ℕ → List ℕ → List ℕ → RequestList → RequestList
opened x method url q = with_request x (Opened method url None) q

-- the state is 1 by then
abbrev pub is_opened : Option Request → Bool
is_opened None = false
is_opened (Some Unsent) = false
is_opened (Some (Opened m u f)) = true
is_opened (Some (Done s t)) = false

abbrev pub sent_as : Option Request → ℕ → RequestList → RequestList
sent_as (Some (Opened m u None)) x q = record {
  requests = slice_set q.requests x (Opened m u (Some (length q.flights + 1)));
  flights = q.flights ++ record { request = x; method = m; url = u } ∷ [];
}
sent_as o x q = q

-- after `send` (3.5.6): one more flight, which has the method and the URL of the last `open`
abbrev pub sent : ℕ → RequestList → RequestList
sent x q = sent_as (slice_get q.requests x) x q

-- what an object of this place sends
abbrev pub IsFlightFrom : Request → ℕ → Flight → Type 0
IsFlightFrom Unsent x f = ⊥
IsFlightFrom (Opened m u w) x f = f ≡ record { request = x; method = m; url = u }
IsFlightFrom (Done s t) x f = ⊥

-- whether the object of this place can be sent
abbrev pub can_be_sent : ℕ → RequestList → Bool
can_be_sent x q = option_map_or can_send (slice_get q.requests x) false

-- after `abort` (3.5.7)
abbrev pub aborted : ℕ → RequestList → RequestList
aborted x q = option_map_or (λ o. with_request x (after_abort o) q) (slice_get q.requests x) q

-- the object that sent this is done, with this status and text
abbrev pub ended : ℕ → ℕ → Option (List ℕ) → RequestList → RequestList
ended r status text q =
    option_map_or (λ f. with_request f.request (Done status text) q) (flight_at r q) q

-- after a reply
abbrev pub replied : ℕ → ℕ → List ℕ → RequestList → RequestList
replied r status text q = ended r status (Some text) q

-- after a network error
abbrev pub failed : ℕ → RequestList → RequestList
failed r q = ended r 0 None q

-- what is kept: each flight is of an object that is there
pub record Fits (q : RequestList) : Type 0 where
  pub owners : All (λ f. f.request < length q.requests) q.flights
  pub few : length q.requests ≤ REQUEST_LIMIT
  pub few_flights : length q.flights ≤ REQUEST_LIMIT
