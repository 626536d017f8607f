use Rattle.std.proofs.Common.{refl}
use Rattle.js_frames.proofs.laws.frames_wait_as_in_any_table.Goals as goal

pub returns : goal.returns
returns g c = record { settled = λ O fs h. h; context = λ O fs x. refl }
