use Rattle.std.proofs.Common.{◌≡◌, ◌+◌, ◌<◌, length, arith}
use Rattle.js_expr.proofs.Going.{underway_first, underway_goes, underway_on, underway_down, underway_ended}
use Rattle.js_expr.proofs.reading.end_of.Goals as goal

pub words-init : goal.words-init
words-init c = underway_first c.args.tokens.now c.args.names c.args.start c.in_ok-reading.reading c.in_ok-reading.ensures.at c.in_ok-reading.ensures.trees c.in_ok-reading.ensures.none c.in_ok-reading.ensures.stack c.in_ok-reading.ensures.place

pub run-requires : goal.run-requires
run-requires c = record { at = c.words.invariant.at; goes = underway_goes c.words.invariant }

pub words-preserved : goal.words-preserved
words-preserved c = underway_on c.words.invariant c.run.new.self c.in_ok-end.field-0 c.in_default.is c.in_ok-end.ensures.at c.in_ok-end.ensures.arrives

pub words-smaller : goal.words-smaller
words-smaller c =
    let less = underway_down c.words.invariant c.run.new.self c.in_ok-end.field-0 c.in_default.is c.in_ok-end.ensures.arrives in
    let on : c.run.new.self.place ≡ c.words.reading.place + 1 = less.0 in
    let room : c.words.reading.place < length c.args.tokens.now.items = less.1 in
    omega arith

pub returns-in-Some : goal.returns-in-Some
returns-in-Some c = underway_ended c.words.invariant c.run.new.self c.in_ok-end.field-0 c.in-Some.end c.ending.result c.in-Some.is c.in_ok-end.ensures.arrives c.ending.ensures
