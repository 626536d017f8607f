-- Bodies, each at its place from 0 on.
use Rattle.std.specs.Prelude.{◌≡◌, ◌≢◌, ℕ, List, Some, slice_get}

-- no body has these bytes
abbrev pub IsMissing : List ℕ → List (List ℕ) → Type 0
IsMissing bytes bodies = (k : ℕ) → slice_get bodies k ≢ Some bytes

-- equal bodies stand at one place
abbrev pub AreDistinct : List (List ℕ) → Type 0
AreDistinct bodies =
    (j k : ℕ) (body : List ℕ) → slice_get bodies j ≡ Some body → slice_get bodies k ≡ Some body
    → j ≡ k
