-- What the lists of a heap's objects and scopes keep.
use Rattle.std.specs.Prelude.{◌≤◌, List, length}
use Rattle.js_heap.specs.Closed.{IsClosed}
use Rattle.js_heap.specs.World.{Object, Scope, World}

abbrev pub world_of : List Object → List Scope → World
world_of os ss = record { objects = os; scopes = ss }

pub record IsKept (os : List Object) (ss : List Scope) : Type 0 where
  pub closed : IsClosed (world_of os ss)
  -- the objects from the start
  pub roots : 16 ≤ length os
