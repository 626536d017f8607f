-- The steps of scripts, computed by the checker.
use Rattle.std.specs.Prelude.{◌≡◌, refl, [], ◌∷◌, Some, codes}
use Rattle.js_value.specs.declared.value.Value.TheVariants as value
use Rattle.js_term.specs.Contraction.{contract}
use Rattle.js_term.specs.Operands.{term_of}
use Rattle.js_heap.specs.Roots.{id_of}
use Rattle.js_rows.specs.inner.Counts.{lines_after, thrown_after, whole}
use Rattle.js_rows.specs.inner.Scripts.{caught, completions, conversion, counting, inserted_semicolons, member_target, null_target, property_order, recursion}

pub member_assigned : lines_after 3 member_target ≡ Some []
unfolding contract term_of
member_assigned = refl

pub null_thrown : thrown_after 2 null_target ≡ Some (value.Ref (id_of 27))
unfolding contract term_of
null_thrown = refl

pub recursion_counted : lines_after 60 recursion ≡ Some ((whole 5 ∷ []) ∷ [])
unfolding contract term_of
recursion_counted = refl

pub counting_counted : lines_after 39 counting ≡ Some ((whole 0 ∷ []) ∷ (whole 1 ∷ []) ∷ (whole 2 ∷ []) ∷ [])
unfolding contract term_of
counting_counted = refl

pub completions_counted : lines_after 68 completions ≡ Some ((whole 2 ∷ whole 3 ∷ value.Text (codes "1d2") ∷ value.Text (codes "2") ∷ value.Text (codes "d2") ∷ []) ∷ [])
unfolding contract term_of
completions_counted = refl

pub order_counted : lines_after 31 property_order ≡ Some ((value.Text (codes "acb") ∷ []) ∷ [])
unfolding contract term_of
order_counted = refl

pub conversion_counted : lines_after 19 conversion ≡ Some ((whole 8 ∷ []) ∷ [])
unfolding contract term_of
conversion_counted = refl

pub caught_counted : lines_after 12 caught ≡ Some ((value.Text (codes "object") ∷ []) ∷ (value.Text (codes "f") ∷ []) ∷ [])
unfolding contract term_of
caught_counted = refl

pub semicolons_counted : lines_after 17 inserted_semicolons ≡ Some ((value.Undefined ∷ whole 1 ∷ whole 3 ∷ []) ∷ [])
unfolding contract term_of
semicolons_counted = refl
