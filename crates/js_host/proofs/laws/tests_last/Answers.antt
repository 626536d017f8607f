use Rattle.js_host.proofs.Lasting.{calm_lasts, there_lasts}
use Rattle.js_host.proofs.laws.tests_last.Goals as goal

pub returns : goal.returns
returns c = record { there = there_lasts; calm = calm_lasts }
