use Rattle.std.proofs.Common.{◌≤◌, arith}
use Rattle.js_heap.proofs.Closing.{kept-cut}
use Rattle.js_heap.proofs.heap.Heap.set_length.Goals as goal

pub invariant_of-self : goal.invariant_of-self
invariant_of-self c =
    let fits : c.args.new_length ≤ 0xFFFF_FFFF = omega (arith, c.ranges.new_length.fits) in
    (kept-cut c.self.inside.objects.items c.cut_array.new.objects.items c.self.inside.scopes.items c.args.obj.number c.args.new_length fits c.self.invariant.0 c.cut_array.ensures, c.self.invariant.1)
