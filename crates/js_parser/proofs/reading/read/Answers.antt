use Rattle.js_parser.proofs.Verdicts.{program, too_deep, unexpected, whole}
use Rattle.js_parser.proofs.reading.read.Goals as goal

pub returns-in-Accepted-clause-program : goal.returns-in-Accepted-clause-program
returns-in-Accepted-clause-program c =
    program c.args.names c.args.start c.args.text.now c.in_ok-tokens.tokens c.in_ok-ending.ending c.in-Accepted.script c.in-Accepted.is
    (record { are = c.in_ok-tokens.ensures.found; units_end = c.in_ok-tokens.ensures.end; answer = c.in_ok-ending.ensures.answer; ended = c.in_ok-ending.ensures.ends })

pub returns-in-Accepted-clause-runs : goal.returns-in-Accepted-clause-runs
returns-in-Accepted-clause-runs c =
    whole c.args.names c.args.start c.args.text.now c.in_ok-tokens.tokens c.in_ok-ending.ending c.in-Accepted.script c.in-Accepted.is
    (record { are = c.in_ok-tokens.ensures.found; units_end = c.in_ok-tokens.ensures.end; answer = c.in_ok-ending.ensures.answer; ended = c.in_ok-ending.ensures.ends })

pub returns-in-Unexpected-clause-refused : goal.returns-in-Unexpected-clause-refused
returns-in-Unexpected-clause-refused c =
    unexpected c.args.names c.args.start c.args.text.now c.in_ok-tokens.tokens c.in_ok-ending.ending c.in-Unexpected.token c.unit_of.result c.in-Unexpected.is (c.unit_of.ensures c.args.names c.args.start)
    (record { are = c.in_ok-tokens.ensures.found; units_end = c.in_ok-tokens.ensures.end; answer = c.in_ok-ending.ensures.answer; ended = c.in_ok-ending.ensures.ends })

pub returns-clause-refused : goal.returns-clause-refused
returns-clause-refused c =
    too_deep c.args.names c.args.start c.args.text.now c.in_ok-tokens.tokens c.in_ok-ending.ending c.in-TooDeep.token c.unit_of-in-TooDeep.result c.in-TooDeep.is (c.unit_of-in-TooDeep.ensures c.args.names c.args.start)
    (record { are = c.in_ok-tokens.ensures.found; units_end = c.in_ok-tokens.ensures.end; answer = c.in_ok-ending.ensures.answer; ended = c.in_ok-ending.ensures.ends })
