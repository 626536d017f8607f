use Rattle.std.proofs.Common.{◌≡◌, rules}
use Rattle.js_table.specs.inner.Slots.{place_of}
use Rattle.js_table.proofs.Places.{within_if, stands_if}
use Rattle.js_table.proofs.slots.place_in.Goals as goal

pub returns-in-Some-clause-within : goal.returns-in-Some-clause-within
returns-in-Some-clause-within c =
    let place : c.copied.result ≡ place_of c.args.name.now c.args.slots.now = search rules in
    within_if c.args.name.now c.args.slots.now c.copied.result place

pub returns-in-Some-clause-stands : goal.returns-in-Some-clause-stands
returns-in-Some-clause-stands c =
    let place : c.copied.result ≡ place_of c.args.name.now c.args.slots.now = search rules in
    stands_if c.args.name.now c.args.slots.now c.copied.result place

pub returns-in-None-clause-within : goal.returns-in-None-clause-within
returns-in-None-clause-within c = within_if c.args.name.now c.args.slots.now c.place_among.result c.place_among.ensures

pub returns-in-None-clause-stands : goal.returns-in-None-clause-stands
returns-in-None-clause-stands c = stands_if c.args.name.now c.args.slots.now c.place_among.result c.place_among.ensures
