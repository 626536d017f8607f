-- Where nothing fails, `capture` of a finished run whose frames fit is done, or finds no memory.
use Rattle.std.proofs.Common.{◌≡◌, inl, inr, ℕ, ◌<◌, List, [], IfSome, Ok, Err, refl, sym, ◌∙◌, subst, arith, length}
use Rattle.mug_text.specs.Text.{StopsAt}
use Rattle.mug_text.specs.declared.limits.TheConstants.{PAGE_LIMIT}
use Rattle.mug_text.proofs.Texts.{bytes_back, text_or_stop, well_formed}
use Rattle.arrival_file.specs.Format.{arrivals_of}
use Rattle.arrival_file.specs.declared.arrival.ArrivalFault.TheVariants as arrival_fault
use Rattle.arrival_file.specs.declared.arrival.Arrivals.{Arrivals}
use Rattle.input_log.specs.declared.item.LogItem.TheVariants.{Head}
use Rattle.input_log.specs.declared.item.LogItem.{LogItem}
use Rattle.capture_engine.specs.Frames.{AreFramesOf}
use Rattle.capture_engine.proofs.Recordings.{one_frames}
use Rattle.capture_engine.specs.declared.recorder.CaptureFault.TheVariants as fault
use Rattle.mugshot_cli.specs.Capturing.{AreRunFrames, CaptureDid, DidRun, IsNoText, IsOtherPage, RunDid}
use Rattle.mugshot_cli.specs.Outcome.{of_capture, status_of}
use Rattle.mugshot_cli.specs.Outside.{Outside}
use Rattle.mugshot_cli.specs.ThinPage.Reading.{IsThin}
use Rattle.mugshot_cli.specs.ThinPage.Run.{plain}
use Rattle.mugshot_cli.specs.Top.{CanCapture, CaptureCompletes, IsOrStarved, WordsDid}
use Rattle.mugshot_cli.specs.declared.sources.ArrivalsRefusal.TheVariants as file
use Rattle.mugshot_cli.specs.declared.capturing.CaptureOutcome.{CaptureOutcome}
use Rattle.mugshot_cli.specs.declared.capturing.CaptureOutcome.TheVariants as capture
use Rattle.mugshot_cli.specs.declared.sources.PageRefusal.TheVariants as page
use Rattle.mugshot_cli.specs.declared.command.Command.TheVariants as command
use Rattle.mugshot_cli.specs.declared.outcome.Outcome.{Outcome}
use Rattle.mugshot_cli.specs.declared.outcome.Status.TheVariants as status
use Rattle.mugshot_cli.specs.declared.thin_page.end.End.TheVariants.{Finished, Budget}
use Rattle.mugshot_cli.specs.declared.thin_page.reading.Statement.{Statement}
use Rattle.mugshot_cli.specs.declared.thin_page.recording.RunOutcome.{RunOutcome}
use Rattle.mugshot_cli.specs.declared.thin_page.recording.RunOutcome.TheVariants as ran
use Rattle.mugshot_cli.proofs.ListComplete.{told}
use Rattle.mugshot_cli.proofs.ThinPage.Statements.{same_page}

module _ (steps : ℕ) (before after : Outside) (can : CanCapture steps before after) where
  -- the run that was recorded is this one
  the_run : (outcome : RunOutcome) → DidRun outcome steps before after.shows → RunDid outcome steps (plain steps can.statements can.given.turns) can.frames before.shows after.shows
  the_run outcome did =
      let same_bytes : did.bytes ≡ can.bytes = sym (told (λ b. b ≡ did.bytes) before.page.left can.bytes can.page_is did.page_is) in
      let same_statements : did.statements ≡ can.statements = same_page can.bytes did.statements can.statements (subst (λ (l : List ℕ). IsThin l did.statements) same_bytes did.page.thin) can.page.thin in
      let read : arrivals_of can.file ≡ Ok did.given = told (λ b. arrivals_of b ≡ Ok did.given) before.arrivals.left can.file can.file_is did.arrivals_are in
      let same_given : did.given ≡ can.given = let other = can.are in cc in
      let are : AreRunFrames can.given.base steps can.bytes (plain steps can.statements can.given.turns) did.frames =
      subst (λ (b : List ℕ). AreFramesOf (Head can.given.base steps b) (plain steps can.statements can.given.turns).inputs did.frames) same_bytes
      (subst (λ (g : Arrivals). AreFramesOf (Head g.base steps did.bytes) (plain steps can.statements g.turns).inputs did.frames) same_given
      (subst (λ (s : List Statement). AreFramesOf (Head did.given.base steps did.bytes) (plain steps s did.given.turns).inputs did.frames) same_statements did.frames_are)) in
      let same_frames : did.frames ≡ can.frames = one_frames (Head can.given.base steps can.bytes) (plain steps can.statements can.given.turns).inputs did.frames can.frames are can.frames_are in
      subst (λ (f : List (List LogItem)). RunDid outcome steps (plain steps can.statements can.given.turns) f before.shows after.shows) same_frames
      (subst (λ (g : Arrivals). RunDid outcome steps (plain steps can.statements g.turns) did.frames before.shows after.shows) same_given
      (subst (λ (s : List Statement). RunDid outcome steps (plain steps s did.given.turns) did.frames before.shows after.shows) same_statements did.did))

  no_stop : (at : ℕ) → StopsAt can.bytes at → ⊥
  no_stop at stops = text_or_stop stops can.text.units (well_formed can.text.text) (bytes_back can.text.text)

  not_there : IfSome before.shows.held (λ bytes. 0 < length bytes) → ⊥
  not_there some = let none : 0 < 0 = told (λ b. 0 < length b) before.shows.held [] can.empty some in omega arith

  done_or_starved : (own : CaptureOutcome) → CaptureDid own steps before after → IsOrStarved (status_of (of_capture own)) status.Done
  done_or_starved capture.NotEmpty did = absurd (not_there did.1)
  done_or_starved capture.DiskFault did = absurd (can.quiet.disk did.1)
  done_or_starved capture.NoMemory did = inr refl
  done_or_starved (capture.Page page.ReadFault) did = absurd (can.page_quiet did.1.0)
  done_or_starved (capture.Page page.TooLarge) did = let large = told (λ b. PAGE_LIMIT < length b) before.page.left can.bytes can.page_is did.1 in absurd (omega (arith, can.page.within))
  done_or_starved (capture.Page (page.NotUtf8 at)) did = absurd (no_stop at (told (λ b. IsNoText b at) before.page.left can.bytes can.page_is did.1).stops)
  done_or_starved (capture.Page page.NotBuilt) did = absurd ((told IsOtherPage before.page.left can.bytes can.page_is did.1).other can.statements can.page.thin)
  done_or_starved (capture.Page page.NoMemory) did = inr refl
  done_or_starved (capture.Arrivals file.ReadFault) did = absurd (can.arrivals_quiet did.2.0)
  done_or_starved (capture.Arrivals (file.Line line kind)) did =
      let broken : arrivals_of can.file ≡ Err (arrival_fault.Line line kind) = told (λ b. arrivals_of b ≡ Err (arrival_fault.Line line kind)) before.arrivals.left can.file can.file_is did.2 in
      let read = can.are in absurd (cc)
  done_or_starved (capture.Arrivals file.NotBuilt) did =
      let at = told (λ b. (line : ℕ) × (arrivals_of b ≡ Err (arrival_fault.NotBuilt line))) before.arrivals.left can.file can.file_is did.2 in
      let unbuilt = at.1 in let read = can.are in absurd (cc)
  done_or_starved (capture.Arrivals file.NoMemory) did = inr refl
  done_or_starved (capture.Ran ran.Done) did = inl refl
  done_or_starved (capture.Ran (ran.Budget n)) did = let spent = (the_run (ran.Budget n) did).1.end_is in let e : Finished ≡ Budget = sym can.finished ∙ spent in absurd (cc)
  done_or_starved (capture.Ran (ran.Halted fault.Full)) did = absurd ((the_run (ran.Halted fault.Full) did).more can.fit)
  done_or_starved (capture.Ran (ran.Halted fault.DiskFault)) did = absurd (can.quiet.disk (the_run (ran.Halted fault.DiskFault) did).rose)
  done_or_starved (capture.Ran (ran.Halted fault.NotEmpty)) did = absurd (not_there (the_run (ran.Halted fault.NotEmpty) did).1)
  done_or_starved (capture.Ran (ran.Halted fault.WriteFault)) did = absurd (can.quiet.out (the_run (ran.Halted fault.WriteFault) did).rose)
  done_or_starved (capture.Ran (ran.Halted fault.NoMemory)) did = inr refl

pub capture_completes : (words : List (List ℕ)) (r : Outcome) (before after : Outside) → WordsDid words r before after → CaptureCompletes words (status_of r) before after
capture_completes words r before after did = record {
  completes = λ page arrivals session steps spelled can.
      let own = did.spelled (command.Capture page arrivals session steps) spelled in
      subst (λ (x : Outcome). IsOrStarved (status_of x) status.Done) (sym own.1) (done_or_starved steps before after can own.0 own.2);
}
