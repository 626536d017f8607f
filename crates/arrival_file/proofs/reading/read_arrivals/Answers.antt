use Rattle.std.proofs.Common.{◌≤◌, length, arith}
use Rattle.arrival_file.specs.Ranges.{IsShortText}
use Rattle.arrival_file.proofs.TurnRanges.{ok-behind, turns-range}
use Rattle.arrival_file.proofs.reading.read_arrivals.Goals as goal

pub returns-clause-ranges : goal.returns-clause-ranges
returns-clause-ranges c =
    let bytes = c.args.bytes.now in
    let rest : length c.in_ok-rest.rest.now ≤ length bytes =
    ok-behind c.read_header.result c.map_err.result (λ r. length r.now ≤ length bytes) _ c.in_ok-rest.rest c.map_err.ensures.variant c.map_err.ensures.cases c.in_ok-rest.was c.read_header.ensures.shorter in
    let base : IsShortText (length c.in_ok-rest.rest.now) c.in_ok-base.base =
    ok-behind c.read_base.result c.map_err-2.result (λ r. IsShortText (length c.in_ok-rest.rest.now) r.0) _ (c.in_ok-base.base, c.in_ok-base.rest) c.map_err-2.ensures.variant c.map_err-2.ensures.cases c.in_ok-base.was
    c.read_base.ensures.text in
    let turns = turns-range _ c.in_ok-turns.turns c.in_ok-turns.ensures c.in_ok-read_lines.ensures.ranges in
    record { base = record { bytes = base.bytes; text = base.text; short = omega arith }; few = turns.0; turns = turns.1 }
