use Rattle.std.proofs.Common.{◌≡◌, ◌<◌, Bool, true, false, ◌||◌, length, take, sym, ◌∙◌, ap, arith}
use Rattle.std.proofs.lemmas.List.{drop_all, take_rest, length-drop}
use Rattle.std.specs.List.{list_any}
use Rattle.mug_text.specs.Characters.{is_line_end}
use Rattle.js_tokens.specs.Gaps.{blank}
use Rattle.js_tokens.proofs.Comments.{gap_end, gap_more, dry_later}
use Rattle.js_tokens.proofs.gaps.gap_at.Goals as goal
use Rattle.js_tokens.proofs.gaps.gap_at.Goals.{then-line, else-line}

true_or : (a b c : Bool) → a ≡ true → c ≡ a → c ≡ (a || b)
true_or true b c h g = g
true_or false b c h g = cc

false_or : (a b c d : Bool) → a ≡ false → d ≡ b → c ≡ d → c ≡ (a || b)
false_or true b c d h g e = cc
false_or false b c d h g e = e ∙ g

pub returns-then-dry-clause-gap : goal.returns-then-dry-clause-gap
returns-then-dry-clause-gap c = gap_end _ _ _ c.pieces.invariant.on (ap blank (sym (take_rest c.args.units.now c.pieces.len)) ∙ sym c.blank_at-piece.ensures.is ∙ c.if-piece-eq0.true)

pub returns-else-dry-clause-gap : goal.returns-else-dry-clause-gap
returns-else-dry-clause-gap c = gap_end _ _ _ c.pieces.invariant.on (ap blank (sym (take_rest c.args.units.now c.pieces.len)) ∙ sym c.blank_at-piece.ensures.is ∙ c.if-piece-eq0.true)

pub pieces-preserved : goal.pieces-preserved
pieces-preserved c =
    let pos : 0 < c.blank_at-piece.result = omega (arith, c.if-piece-eq0.false) in
    elim c.if-line.branch [
      | then-line w ↦ record {
        within = omega (arith, c.blank_at-piece.ensures.within, ap length (take_rest c.args.units.now c.pieces.len), length-drop c.pieces.len c.args.units.now, c.pieces-test.true);
        dry = λ h. dry_later c.args.units.now c.pieces.len c.blank_at-piece.result (c.pieces.invariant.dry h);
        on = gap_more _ _ _ _ _ c.pieces.invariant.on (c.blank_at-piece.ensures.is ∙ ap blank (take_rest c.args.units.now c.pieces.len)) pos (true_or _ _ _ w.if-line.true w.line-is);
      }
      | else-line w ↦ record {
        within = omega (arith, c.blank_at-piece.ensures.within, ap length (take_rest c.args.units.now c.pieces.len), length-drop c.pieces.len c.args.units.now, c.pieces-test.true);
        dry = λ h. dry_later c.args.units.now c.pieces.len c.blank_at-piece.result (c.pieces.invariant.dry h);
        on = gap_more _ _ _ _ _ c.pieces.invariant.on (c.blank_at-piece.ensures.is ∙ ap blank (take_rest c.args.units.now c.pieces.len)) pos (false_or _ _ _ _ w.if-line.false (w.has_line_end-line.ensures ∙ ap (λ z. list_any is_line_end (take c.blank_at-piece.result z)) (take_rest c.args.units.now c.pieces.len)) w.line-is);
      }
    ]

pub returns-clause-gap : goal.returns-clause-gap
returns-clause-gap c = gap_end _ _ _ c.pieces.invariant.on (ap blank (drop_all c.pieces.len c.args.units.now (omega (arith, c.pieces-test.false))))
