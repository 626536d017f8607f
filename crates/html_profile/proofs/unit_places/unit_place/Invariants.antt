use Rattle.std.proofs.Common.{◌≡◌, ◌+◌, drop}
use Rattle.html_profile.specs.ScriptPlaces.{place_behind}
use Rattle.html_profile.proofs.unit_places.unit_place.Given as goal

-- the units that have been passed begin before
abbrev pub invariant-loop-index : goal.invariant-loop-index
invariant-loop-index l = place_behind 0 l.unit l.bytes ≡ l.index + place_behind l.before l.left (drop l.index l.bytes)
