use Rattle.std.proofs.Common.{inl, sym, ◌∙◌}
use Rattle.std.proofs.lemmas.Result.{IfOk-weaker}
use Rattle.js_frames.proofs.Steps.{moves-by, none-left}
use Rattle.js_frames.proofs.moves.next_move.Goals as goal

pub returns-then-is_free : goal.returns-then-is_free
returns-then-is_free g c = (
  sym c.is_free.ensures ∙ c.if-is_free.true,
  none-left c.args.frame.now.operands.todo
      (sym c.in-None.ensures),
)

pub returns-else-is_free : goal.returns-else-is_free
returns-else-is_free g c = (
  sym c.is_free.ensures ∙ c.if-is_free.false,
  inl (none-left c.args.frame.now.operands.todo
      (sym c.in-None.ensures)),
)

pub returns-else-is_early_next : goal.returns-else-is_early_next
returns-else-is_early_next g c =
    IfOk-weaker c.operand_move.result _ _
    (λ m e. moves-by c.args.texts.now c.args.frame.now c.in-Some.operand.now m
    (sym c.is_early_next.ensures ∙ c.if-is_early_next.false)
    (sym c.in-Some.ensures) e)
    c.operand_move.ensures
