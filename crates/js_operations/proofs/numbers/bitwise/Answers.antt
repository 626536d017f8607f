use Rattle.std.proofs.Common.{rules, ◌≡◌, subst, sym}
use Rattle.js_ops.specs.Rows as rows
use Rattle.js_operations.proofs.Primitive.{ArePrimitive, bits_is_primitive}
use Rattle.js_operations.proofs.numbers.bitwise.Goals as goal

pub returns-clause-primitive : goal.returns-clause-primitive
returns-clause-primitive c =
    let a = c.args.left.now in
    let b = c.args.right.now in
    let same : c.ok.result ≡ rows.bits c.args.operator a b = search rules in
    subst ArePrimitive (sym same) (bits_is_primitive c.args.operator a b)
