use Rattle.capture_engine.proofs.Recordings.{inputs_in_a_row, one_frames, some_frames}
use Rattle.capture_engine.proofs.laws.frames_are_one.Goals as goal

pub returns-clause-some : goal.returns-clause-some
returns-clause-some c = some_frames

pub returns-clause-one : goal.returns-clause-one
returns-clause-one c = one_frames

pub returns-clause-in_a_row : goal.returns-clause-in_a_row
returns-clause-in_a_row c = inputs_in_a_row
