-- What a run is made of, and how it is captured.
use Rattle.std.specs.Prelude.{ℕ, Result, Ok, Err}
use Rattle.arrival_file.specs.Ranges.{InRanges}
use Rattle.capture_engine.specs.Outside.{Shown}
use Rattle.capture_engine.specs.Recording.{Unchanged}
use Rattle.mugshot_cli.specs.Capturing.{CaptureDid, FileRefused, HasThinPage, IsBytes, IsEmpty}
use Rattle.mugshot_cli.specs.Capturing.{IsThinPage, PageRefused, ReadsAs}
use Rattle.mugshot_cli.specs.Outside.{Stream, Supply}
use Rattle.mugshot_cli.specs.declared.capturing.CaptureOutcome.{CaptureOutcome}
use Rattle.mugshot_cli.specs.declared.capturing.CaptureOutcome.TheVariants.{Page, Arrivals, Ran}
use Rattle.mugshot_cli.specs.declared.capturing.Material.{Material}
use Rattle.mugshot_cli.specs.declared.thin_page.recording.RunOutcome.{RunOutcome}

-- a thin page and the arrivals of a file, which the two sources had
pub record IsMaterial (m : Material) (page arrivals : Supply) : Type 0 where
  pub thin : IsThinPage m.page.bytes m.page.statements
  pub page_is : IsBytes page m.page.bytes
  pub arrivals_are : ReadsAs arrivals (Ok m.given)
  pub ranges : InRanges m.given

-- why there is none
abbrev pub MaterialRefused : CaptureOutcome → Supply → Supply → Supply → Supply → Type 0
MaterialRefused (Page why) page page' arrivals arrivals' = PageRefused why page page'
MaterialRefused (Arrivals why) page page' arrivals arrivals' =
    HasThinPage page × FileRefused why arrivals arrivals'
MaterialRefused other page page' arrivals arrivals' = ⊥

-- the outcome that a capture came to
abbrev pub came_to : Result RunOutcome CaptureOutcome → CaptureOutcome
came_to (Ok outcome) = Ran outcome
came_to (Err outcome) = outcome

-- what a capture came to on an empty disk
pub record CapturesFrom (result : Result RunOutcome CaptureOutcome) (budget : ℕ)
    (page page' arrivals arrivals' : Supply) (now now' : Shown) : Type 0 where
  pub did : (start : Shown) (err err' : Stream) → Unchanged start now → IsEmpty start
      → CaptureDid (came_to result) budget
      (record { page = page; arrivals = arrivals; shows = start; err = err })
      (record { page = page'; arrivals = arrivals'; shows = now'; err = err' })
