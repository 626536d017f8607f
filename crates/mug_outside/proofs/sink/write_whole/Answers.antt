use Rattle.std.proofs.Common.{arith, length-drop, ◌∙◌}
use Rattle.mug_outside.proofs.Told.{behind_piece, took_less}
use Rattle.mug_outside.proofs.sink.write_whole.Goals as goal

pub returns-in-Err-clause-err : goal.returns-in-Err-clause-err
returns-in-Err-clause-err g c =
    took_less _ _ _ _ c.loop-at-test.true (c.in-Err.ensures.kept ∙ c.loop-at.invariant.1)

pub loop-at-preserved : goal.loop-at-preserved
loop-at-preserved g c = (
  omega (arith, c.in-Ok.ensures.size, length-drop c.loop-at.at c.args.bytes.now),
  behind_piece _ _ _ _ _ _ c.loop-at.invariant.1 c.in-Ok.ensures.told,
  omega (arith, c.loop-at.invariant.2, c.in-Ok.ensures.cause.later),
)
