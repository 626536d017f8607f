use Rattle.std.proofs.Common.{◌-◌, ◌<◌, length, arith}
use Rattle.js_value.specs.declared.value.ObjId.{ObjId}
use Rattle.event_dispatch.proofs.Turns.{filled, turn_behind, turn_front, turn_middle}
use Rattle.event_dispatch.proofs.walk.turn.Goals as goal

abbrev other : ObjId
other = record { number = 0 }

pub returns-then-at-above : goal.returns-then-at-above
returns-then-at-above c = turn_front c.args.owners.now c.args.bubbles c.args.at other c.if-at-above.true

pub returns-then-at-above-2 : goal.returns-then-at-above-2
returns-then-at-above-2 c =
    turn_middle c.args.owners.now c.args.bubbles c.args.at other (filled c.args.owners.now c.args.bubbles c.args.at c.requires) c.if-at-above-2.true

pub returns : goal.returns
returns c =
    let above : length c.args.owners.now - 1 < c.args.at = omega (arith, c.if-at-above-2.false) in
    turn_behind c.args.owners.now c.args.bubbles c.args.at other (filled c.args.owners.now c.args.bubbles c.args.at c.requires) above c.requires
