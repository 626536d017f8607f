use Rattle.std.proofs.Common.{◌≡◌, ◌+◌, drop}
use Rattle.html_profile.specs.Marks.{place}
use Rattle.html_profile.proofs.mark.Mark.place.Given as goal

-- the mark stands nowhere before
abbrev pub invariant-loop-index : goal.invariant-loop-index
invariant-loop-index l = place l.self l.fn.text ≡ l.index + place l.self (drop l.index l.text)
