use Rattle.std.proofs.Common.{ap, sym, ◌∙◌}
use Rattle.std.specs.Option.{option_copied}
use Rattle.js_expr.proofs.Looking.{last_held, none_held}
use Rattle.js_expr.proofs.trees.Trees.last.Goals as goal

pub target_in-requires : goal.target_in-requires
target_in-requires c =
    let (vs, h) = c.requires in
    let (bodies, t, held, same) = last_held c.args.self.now vs c.in_ok-piece.piece.now h (sym c.last.ensures ∙ ap option_copied c.in_ok-piece.was) in
    (bodies, t, held)

pub returns : goal.returns
returns c vs h =
    let (bodies, t, held, same) = last_held c.args.self.now vs c.in_ok-piece.piece.now h (sym c.last.ensures ∙ ap option_copied c.in_ok-piece.was) in
    same ∙ c.target_in.ensures bodies t held

pub returns-in_err-piece : goal.returns-in_err-piece
returns-in_err-piece c vs h = none_held c.args.self.now vs h (sym c.last.ensures ∙ ap option_copied c.in_err-piece.was) ∙ sym c.from_residual.ensures
