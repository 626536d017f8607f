-- A `var` without a declarator has no step.
use Rattle.std.proofs.Common.{◌≡◌, ℕ, zero, suc, ◌<◌, ◌≤◌, List, [], ◌∷◌}
use Rattle.std.proofs.Common.{drop, length, refl, true, false, arith}
use Rattle.js_tree.specs.Arena.{Arena}
use Rattle.js_tree.specs.declared.node.Declarator.{Declarator}
use Rattle.js_stmt.specs.CodeRows.{var_as}
use Rattle.js_stmt.specs.Make.{stmt_has_no_step}

pub past : (a : Arena) (ds : List Declarator) (i : ℕ) → length ds ≤ i
    → true ≡ stmt_has_no_step (var_as a (drop i ds))
past a [] zero e = refl
past a [] (suc i) e = refl
past a (d ∷ ds) zero e = absurd (omega (arith, e))
past a (d ∷ ds) (suc i) e = past a ds i (omega (arith, e))

pub within : (a : Arena) (ds : List Declarator) (i : ℕ) → i < length ds
    → false ≡ stmt_has_no_step (var_as a (drop i ds))
within a [] i e = absurd (omega (arith, e))
within a (d ∷ ds) zero e = refl
within a (d ∷ ds) (suc i) e = within a ds i (omega (arith, e))
