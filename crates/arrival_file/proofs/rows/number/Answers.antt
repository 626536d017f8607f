use Rattle.std.proofs.Common.{arith}
use Rattle.arrival_file.proofs.FieldValues.{number_given}
use Rattle.arrival_file.proofs.rows.number.Goals as goal

pub returns-clause-gives : goal.returns-clause-gives
returns-clause-gives c =
    number_given c.args.field.now c.args.end c.decimal_below.result c.ok_or.result (omega arith) c.decimal_below.ensures.none c.decimal_below.ensures.some c.ok_or.ensures.value
