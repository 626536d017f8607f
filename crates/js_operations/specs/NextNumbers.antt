-- What `++` and `--` write (ECMA-262 edition 5.1, 11.3, 11.4.4, 11.4.5).
use Rattle.std.specs.Prelude.{Option, pos}
use Rattle.js_value.specs.declared.number.Num.{Num}
use Rattle.js_value.specs.declared.number.Num.TheVariants.{Whole}
use Rattle.js_value.specs.declared.value.Value.{Value}
use Rattle.js_ops.specs.Numbers.{sum, whole_result, wholes}
use Rattle.js_ops.specs.Rows.{profiled}
use Rattle.js_ops.specs.declared.number.Arith.TheVariants as arith_op
use Rattle.js_tree.specs.declared.production.UpdateOperator.{UpdateOperator}
use Rattle.js_tree.specs.declared.production.UpdateOperator.TheVariants.{Increment, Decrement}

-- the next number, where it is in the profile
abbrev pub next_number : UpdateOperator → Num → Option Value
next_number Increment n = profiled (wholes sum n (Whole (pos 1)))
next_number Decrement n = profiled (wholes (whole_result arith_op.Sub) n (Whole (pos 1)))
