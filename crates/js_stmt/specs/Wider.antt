-- A world after another in which no object and no scope is missing; there may be more of both.
use Rattle.std.specs.Prelude.{◌≤◌, length}
use Rattle.js_heap.specs.World.{World}

pub record IsWider (w w' : World) : Type 0 where
  pub objects : length w.objects ≤ length w'.objects
  pub scopes : length w.scopes ≤ length w'.scopes
