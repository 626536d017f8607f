use Rattle.std.proofs.Common.{true, false, ◌==◌, [], length, drop, refl, sym, ◌∙◌, ap, subst, arith, zero-add, append-nil}
use Rattle.std.proofs.lemmas.Bool.{eq-eqb, ne_eqb}
use Rattle.std.proofs.lemmas.List.{drop_all, take_rest, length-drop}
use Rattle.js_tokens.specs.Strings.{piece, Inside, closes}
use Rattle.js_tokens.proofs.Runs.{begins_drop}
use Rattle.js_tokens.proofs.Comments.{drop_drop}
use Rattle.js_tokens.proofs.Pieces.{none_inside, inside_tail, inside_more}
use Rattle.js_tokens.proofs.strings.inside_at.Goals as goal

pub pieces-init : goal.pieces-init
pieces-init c = record {
  within = omega arith;
  on = λ n v g. (v, subst (λ m. Inside c.args.quote c.args.units.now m v) (sym (zero-add n)) g, refl);
  back = λ n w g. (n, w, g);
}

pub returns-then-units-at : goal.returns-then-units-at
returns-then-units-at c =
    let (w, g, e) = c.pieces.invariant.on 0 [] (closes (begins_drop (λ u. u == c.args.quote) c.args.units.now c.pieces.at true c.pieces-test.true (eq-eqb _ _ c.if-units-at.true))) in
    (c.pieces-test.true, (w, subst (λ n. Inside c.args.quote c.args.units.now n w) (omega arith) g, sym (e ∙ append-nil c.pieces.out.items)))

pub returns-in-None : goal.returns-in-None
returns-in-None c n v h =
    let (m, w, g) = c.pieces.invariant.back n v h in
    none_inside c.args.quote (drop c.pieces.at c.args.units.now) m w (ap (piece c.args.quote) (sym (take_rest c.args.units.now c.pieces.at)) ∙ sym c.in-None.ensures.is) (begins_drop (λ u. u == c.args.quote) c.args.units.now c.pieces.at false c.pieces-test.true (ne_eqb _ _ c.if-units-at.false)) g

pub pieces-preserved : goal.pieces-preserved
pieces-preserved c =
    let found = ap (piece c.args.quote) (sym (take_rest c.args.units.now c.pieces.at)) ∙ sym c.in-Some.ensures.is in
    record {
      within = omega (arith, c.in-Some.ensures.moves.1, ap length (take_rest c.args.units.now c.pieces.at), length-drop c.pieces.at c.args.units.now, c.pieces-test.true);
      on = inside_more _ _ _ _ _ _ c.in-Some.piece c.pieces.invariant.on found c.in_ok-push_piece-in-Some.ensures;
      back = λ n w h.
          let (m, v, g) = c.pieces.invariant.back n w h in
          let (k, x, t) = inside_tail c.args.quote (drop c.pieces.at c.args.units.now) c.in-Some.piece m v found g in
          (k, x, subst (λ z. Inside c.args.quote z k x) (drop_drop c.pieces.at c.in-Some.piece.len c.args.units.now) t);
    }

pub returns : goal.returns
returns c n v h =
    let (m, w, g) = c.pieces.invariant.back n v h in
    none_inside c.args.quote [] m w refl refl (subst (λ z. Inside c.args.quote z m w) (drop_all c.pieces.at c.args.units.now (omega (arith, c.pieces-test.false))) g)
