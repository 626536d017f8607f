-- The calls of a dispatch.
use Rattle.std.proofs.Common.{◌≡◌, ℕ, List, [], ◌∷◌, ◌++◌, Option, Some, None, MatchOption, refl, sym, ap, ◌∙◌, subst}
use Rattle.std.proofs.lemmas.List.Elements.{filter_map-append}
use Rattle.std.specs.List.{cons_option, filter_map, flat_map}
use Rattle.event_dispatch.specs.Listeners.{Listener}
use Rattle.event_dispatch.specs.Dispatch.{Call, Dispatch, Pending, Step, Turn, call_in, calls_left, chosen_first, come, copied, first_call, step, step_with}

abbrev calls_in : List Listener → List Pending → List Call
calls_in ls ps = filter_map (call_in ls) ps

-- what a step that was found says of the calls that are left
abbrev Tells : Option (Call × List Pending) → List Listener → List Call → Type 0
Tells None ls cs = cs ≡ []
Tells (Some c) ls cs = cs ≡ c.0 ∷ calls_in ls c.1

first_tells : (o : Option Call) (ps : List Pending) (ls : List Listener) (rest : Option (Call × List Pending)) (cs : List Call) → calls_in ls ps ≡ cs → Tells rest ls cs → Tells (chosen_first o ps rest) ls (cons_option o cs)
first_tells None ps ls rest cs e t = t
first_tells (Some c) ps ls rest cs e t = ap (λ r. c ∷ r) (sym e)

first_is : (ls : List Listener) (ps : List Pending) → Tells (first_call ls ps) ls (calls_in ls ps)
first_is ls [] = refl
first_is ls (p ∷ ps) = first_tells (call_in ls p) ps ls (first_call ls ps) (calls_in ls ps) refl (first_is ls ps)

abbrev Says : List Listener → List Call → Step → Type 0
Says ls cs s = MatchOption s.call (cs ≡ []) (λ c. cs ≡ c ∷ calls_left ls s.after)

step_says : (o : Option (Call × List Pending)) (ls : List Listener) (kind : List ℕ) (ts : List Turn) (otherwise : Step) (cs more : List Call) → filter_map (call_in ls) (flat_map (λ t. copied kind t ls) ts) ≡ more → Tells o ls cs → Says ls more otherwise → Says ls (cs ++ more) (step_with o kind ts otherwise)
step_says None ls kind ts otherwise cs more e t s = subst (λ xs. Says ls (xs ++ more) otherwise) (sym t) s
step_says (Some c) ls kind ts otherwise cs more e t s =
    ap (λ xs. xs ++ more) t ∙ ap (λ r. c.0 ∷ r) (ap (λ r. calls_in ls c.1 ++ r) (sym e) ∙ sym (filter_map-append (call_in ls) c.1 (flat_map (λ x. copied kind x ls) ts)))

come_says : (ls : List Listener) (kind : List ℕ) (ts : List Turn) → Says ls (calls_in ls (flat_map (λ t. copied kind t ls) ts)) (come ls kind ts)
come_says ls kind [] = refl
come_says ls kind (t ∷ ts) =
    subst (λ xs. Says ls xs (come ls kind (t ∷ ts))) (sym (filter_map-append (call_in ls) (copied kind t ls) (flat_map (λ x. copied kind x ls) ts)))
    (step_says (first_call ls (copied kind t ls)) ls kind ts (come ls kind ts) (calls_in ls (copied kind t ls)) (calls_in ls (flat_map (λ x. copied kind x ls) ts)) refl (first_is ls (copied kind t ls)) (come_says ls kind ts))

pub step_calls : (ls : List Listener) (d : Dispatch) → MatchOption (step ls d).call (calls_left ls d ≡ []) (λ c. calls_left ls d ≡ c ∷ calls_left ls (step ls d).after)
step_calls ls d =
    subst (λ xs. Says ls xs (step ls d)) (sym (filter_map-append (call_in ls) d.left (flat_map (λ x. copied d.kind x ls) d.turns)))
    (step_says (first_call ls d.left) ls d.kind d.turns (come ls d.kind d.turns) (calls_in ls d.left) (calls_in ls (flat_map (λ x. copied d.kind x ls) d.turns)) refl (first_is ls d.left) (come_says ls d.kind d.turns))
