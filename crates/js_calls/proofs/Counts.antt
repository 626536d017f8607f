-- How many objects a call makes, as it is counted.
use Rattle.std.proofs.Common.{◌≡◌, ℕ, ◌+◌, ◌*◌, ◌<◌, Bool, true, false, length, refl, sym}
use Rattle.std.proofs.Common.{arith}
use Rattle.std.specs.Prelude.{if◌then◌else◌}
use Rattle.std.proofs.lemmas.Bool.{lt-leb}
use Rattle.js_heap.specs.World.{World}
use Rattle.js_heap.specs.declared.fault.TheConstants.{COUNT_LIMIT}
use Rattle.js_reference.specs.Functions.{objects_of_function}
use Rattle.js_reference.specs.Room.{objects_fit}
use Rattle.js_tree.specs.declared.node.Scope.{Scope}
use Rattle.js_calls.specs.Calls.{objects_with, one_if}

-- more functions than fit
pub functions_over : (w : World) (n : ℕ) → COUNT_LIMIT < n
    → false ≡ objects_fit w (objects_of_function * n)
functions_over w n l =
    sym (lt-leb (length w.objects + 2 * n) COUNT_LIMIT (omega (arith, l)))

pub no_room : (w : World) (names : Scope) (construct : Bool) → COUNT_LIMIT < length names.functions
    → false ≡ objects_fit w (objects_with names construct)
no_room w names construct l =
    let n = length names.functions in
    let a = one_if construct in
    let b = one_if names.has_arguments in
    sym (lt-leb (length w.objects + (a + (2 * n + b))) COUNT_LIMIT (omega (arith, l)))

as_one : (b : Bool) → (if b then 1 else 0) ≡ one_if b
as_one true = refl
as_one false = refl

pub same_room : (w : World) (names : Scope) (construct : Bool)
    → 2 * length names.functions
    + ((if names.has_arguments then 1 else 0) + (if construct then 1 else 0))
    ≡ objects_with names construct
same_room w names construct =
    let n = length names.functions in
    let a = as_one names.has_arguments in
    let b = as_one construct in
    omega (arith, a, b)
