use Rattle.std.proofs.Common.{◌≡◌, List, ap, length, subst, sym, ◌∙◌}
use Rattle.std.specs.Option.{option_copied}
use Rattle.js_pieces.specs.declared.pieces.Piece.{Piece}
use Rattle.js_pieces.proofs.Sorting.{last_there, none_there}
use Rattle.js_pieces.proofs.pieces.Pieces.last.Goals as goal

pub returns : goal.returns
returns c =
    sym (last_there c.args.self.now c.self.inside.items.items c.in_ok-piece.field-0-1.now c.in_ok-piece.piece.now
    c.self.view_is (sym c.as_slice.ensures.value ∙ c.in_ok-piece.ensures.cases.0))

pub returns-in_err-piece : goal.returns-in_err-piece
returns-in_err-piece c =
    let none : length c.as_slice.result.now ≡ 0 = c.in_err-piece.ensures.cases in
    ap (λ z. option_copied z) c.from_residual.ensures ∙
    sym (none_there c.args.self.now c.self.inside.items.items c.self.view_is
    (subst (λ (z : List Piece). length z ≡ 0) c.as_slice.ensures.value none))
