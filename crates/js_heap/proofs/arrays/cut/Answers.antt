use Rattle.std.proofs.Common.{◌≤◌, ap, arith, sym, ◌∙◌}
use Rattle.js_heap.specs.Elements.{length_of, with_length}
use Rattle.js_table.specs.Indices.{without_elements}
use Rattle.js_table.proofs.ElementLemmas.{without_elements-none}
use Rattle.js_heap.proofs.arrays.cut.Goals as goal
use Rattle.js_heap.proofs.arrays.cut.Goals.{then-length-before, else-length-before}

pub returns : goal.returns
returns c = c.change_length.ensures ∙ ap (with_length c.args.length) (elim c.if-length-before.branch [
  | then-length-before w ↦ w.properties-is ∙ w.remove_elements.ensures ∙ ap (λ m. without_elements c.args.length m c.args.properties.now) c.length_of-before.ensures
  | else-length-before w ↦
      let high = w.if-length-before.false in
      let none : length_of c.args.properties.now ≤ c.args.length = omega (arith, high, c.length_of-before.ensures) in
      w.properties-is ∙ sym (without_elements-none c.args.length (length_of c.args.properties.now) c.args.properties.now none)
])
