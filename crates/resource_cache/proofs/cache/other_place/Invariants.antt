use Rattle.std.proofs.Common.{◌≢◌, All, Some, slice_get, take}
use Rattle.resource_cache.proofs.cache.other_place.Given as goal

abbrev pub invariant-loop-place : goal.invariant-loop-place
invariant-loop-place l =
    All (λ k. slice_get l.bodies k ≢ Some l.bytes) (take l.place-index l.others)
