-- What ends a flight.
use Rattle.std.proofs.Common.{◌≡◌, ℕ, zero, suc, Bool, true, false, ◌&&◌, eqb, List, [], ◌∷◌, set, Option, Some, None, slice_get, refl, ap, ◌∙◌}
use Rattle.std.proofs.lemmas.Bool.{and_parts, eqb-true}
use Rattle.std.specs.Option.{option_and_then, option_map_or}
use Rattle.request_model.specs.Request.{Request, flight_of, after_abort}
use Rattle.request_model.specs.declared.request.Request.TheVariants.{Unsent, Opened, Done}
use Rattle.request_model.specs.Requests.{Flight, RequestList, flight_in, flight_at, is_number, is_waited_for, is_in_flight, is_flight_of, with_request, opened, aborted, ended, replied, failed}

-- an object that waits for none doesn't wait for this
unwaited : (r : ℕ) (os : List Request) (x : ℕ) (o : Request) → flight_of o ≡ None → is_waited_for r (set os x o) x ≡ false
unwaited r [] x o e = refl
unwaited r (p ∷ os) zero o e = ap (is_number r) e
unwaited r (p ∷ os) (suc x) o e = unwaited r os x o e

-- A reply or a failure.

over : (r s : ℕ) (t : Option (List ℕ)) (q : RequestList) (o : Option Flight) → option_map_or (λ f. is_waited_for r (option_map_or (λ (g : Flight). with_request g.request (Done s t) q) o q).requests f.request) o false ≡ false
over r s t q None = refl
over r s t q (Some f) = unwaited r q.requests f.request (Done s t) refl

same_flights : (s : ℕ) (t : Option (List ℕ)) (q : RequestList) (o : Option Flight) → (option_map_or (λ (g : Flight). with_request g.request (Done s t) q) o q).flights ≡ q.flights
same_flights s t q None = refl
same_flights s t q (Some f) = refl

ended_over : (r s : ℕ) (t : Option (List ℕ)) (q : RequestList) → is_in_flight r (ended r s t q) ≡ false
ended_over r s t q =
    ap (λ fs. option_map_or (λ (f : Flight). is_waited_for r (ended r s t q).requests f.request) (flight_in r fs) false) (same_flights s t q (flight_at r q))
    ∙ over r s t q (flight_at r q)

pub reply_over : (q : RequestList) (r s : ℕ) (t : List ℕ) → is_in_flight r q ≡ true → is_in_flight r (replied r s t q) ≡ false
reply_over q r s t h = ended_over r s (Some t) q

pub failure_over : (q : RequestList) (r : ℕ) → is_in_flight r q ≡ true → is_in_flight r (failed r q) ≡ false
failure_over q r h = ended_over r 0 None q

-- A change of the object.

none_after : (o : Request) → flight_of (after_abort o) ≡ None
none_after Unsent = refl
none_after (Opened m u None) = refl
none_after (Opened m u (Some n)) = refl
none_after (Done s t) = refl

aborted_at : (r x : ℕ) (q : RequestList) (p : Option Request) → slice_get q.requests x ≡ p → is_waited_for r (option_map_or (λ o. with_request x (after_abort o) q) p q).requests x ≡ false
aborted_at r x q None e = ap (λ o. is_number r (option_and_then flight_of o)) e
aborted_at r x q (Some o) e = unwaited r q.requests x (after_abort o) (none_after o)

same_aborted : (x : ℕ) (q : RequestList) (p : Option Request) → (option_map_or (λ o. with_request x (after_abort o) q) p q).flights ≡ q.flights
same_aborted x q None = refl
same_aborted x q (Some o) = refl

-- what is left of the flight of an object that waits for none
left_over : (r x : ℕ) (os : List Request) (b : Bool) (o : Option Flight) → is_waited_for r os x ≡ false → (option_map_or (λ (f : Flight). eqb f.request x) o false && b) ≡ true → option_map_or (λ (f : Flight). is_waited_for r os f.request) o false ≡ false
left_over r x os b None h e = refl
left_over r x os b (Some f) h e =
    let same : f.request ≡ x = eqb-true f.request x (and_parts (eqb f.request x) b e).0 in
    ap (is_waited_for r os) same ∙ h

pub abort_over : (q : RequestList) (x r : ℕ) → is_flight_of x r q ≡ true → is_in_flight r (aborted x q) ≡ false
abort_over q x r h =
    ap (λ fs. option_map_or (λ (f : Flight). is_waited_for r (aborted x q).requests f.request) (flight_in r fs) false) (same_aborted x q (slice_get q.requests x))
    ∙ left_over r x (aborted x q).requests (is_in_flight r q) (flight_at r q) (aborted_at r x q (slice_get q.requests x) refl) h

pub open_over : (q : RequestList) (x r : ℕ) (m u : List ℕ) → is_flight_of x r q ≡ true → is_in_flight r (opened x m u q) ≡ false
open_over q x r m u h = left_over r x (set q.requests x (Opened m u None)) (is_in_flight r q) (flight_at r q) (unwaited r q.requests x (Opened m u None) refl) h
