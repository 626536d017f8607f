use Rattle.std.proofs.Common.{◌≡◌, ◌≢◌, ◌-◌, [], None, Ok, inl, inr, length, ap, ◌∙◌, arith}
use Rattle.std.proofs.lemmas.Bool.Decides.{nat_tests}
use Rattle.std.proofs.lemmas.Result.{err_from_is_err_and}
use Rattle.arrival_file.specs.Format.{lines}
use Rattle.arrival_file.proofs.TurnRanges.{lines-range}
use Rattle.arrival_file.proofs.LinesRead.{lines-end, lines-more, lines-stop, nothing_left}
use Rattle.arrival_file.proofs.rows.read_lines.Goals as goal

pub returns-in_err-arrival-clause-gives : goal.returns-in_err-arrival-clause-gives
returns-in_err-arrival-clause-gives c =
    let p = err_from_is_err_and c.from_residual.result c.from_residual.ensures.1 in
    let left = c.loop-rest.invariant.1 in
    let some : c.loop-rest.rest.now ≢ [] = λ empty. let none : length c.loop-rest.rest.now ≡ 0 = ap length empty in grind (arith, nat_tests) in
    rw (p.1, p.2)
    (elim c.in_err-arrival.ensures.gives [
      | inl stops ↦ inl (left.2 ∙ lines-stop _ _ _ _ _ some left.1 stops)
      | inr out_of_memory ↦ inr out_of_memory
    ])

pub loop-rest-preserved : goal.loop-rest-preserved
loop-rest-preserved c =
    let left = c.loop-rest.invariant.1 in
    let some : c.loop-rest.rest.now ≢ [] = λ empty. let none : length c.loop-rest.rest.now ≡ 0 = ap length empty in grind (arith, nat_tests) in
    let shorter = c.in_ok-arrival.ensures.shorter in (
      omega arith,
      (left.0 - 1, omega arith, left.2 ∙ lines-more _ _ _ _ _ _ some left.1 c.in_ok-arrival.ensures.gives),
    )

-- the whole file was read
pub returns-clause-gives : goal.returns-clause-gives
returns-clause-gives c =
    let left = c.loop-rest.invariant.1 in
    let none : length c.loop-rest.rest.now ≡ 0 = grind (arith, nat_tests) in
    left.2 ∙ rw (nothing_left c.loop-rest.rest.now none) (lines-end _ _ _)

pub returns-clause-ranges : goal.returns-clause-ranges
returns-clause-ranges c =
    let left = c.loop-rest.invariant.1 in
    let none : length c.loop-rest.rest.now ≡ 0 = grind (arith, nat_tests) in
    let whole : lines (length c.args.bytes.now) 3 None c.args.bytes.now ≡ Ok c.loop-rest.so_far = left.2 ∙ rw (nothing_left c.loop-rest.rest.now none) (lines-end _ _ _) in
    lines-range (length c.args.bytes.now) 3 None c.loop-rest.so_far c.args.bytes.now tt whole
