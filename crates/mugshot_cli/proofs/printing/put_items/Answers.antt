use Rattle.std.proofs.Common.{◌≡◌, arith, take}
use Rattle.std.proofs.lemmas.List.{take_all}
use Rattle.std.proofs.lemmas.Result.{err_from_is_err_and}
use Rattle.mugshot_cli.specs.Listing.{item_line}
use Rattle.mugshot_cli.specs.Outside.{stream}
use Rattle.mugshot_cli.proofs.PrintedLines.{adds_more, adds_none, puts_not_at, puts_ok}
use Rattle.mugshot_cli.proofs.printing.put_items.Goals as goal

pub loop-item-init : goal.loop-item-init
loop-item-init g c = (adds_none _ (stream g.O.Sink c.args.out.now), omega arith)

pub loop-item-preserved : goal.loop-item-preserved
loop-item-preserved g c =
    let put = c.in_ok-put_item.ensures in
    (adds_more item_line c.args.items.now c.loop-item.item-index c.item-item.result c.loop-item-test.true c.item-item.is c.loop-item.invariant.0 put.ok, omega (arith, c.loop-item.invariant.1, put.later))

pub returns-in_err-put_item : goal.returns-in_err-put_item
returns-in_err-put_item g c =
    let p = err_from_is_err_and c.from_residual.result c.from_residual.ensures.1 in
    rw (p.1, p.2) (puts_not_at item_line c.args.items.now c.loop-item.item-index c.item-item.result _ c.loop-item-test.true c.item-item.is c.loop-item.invariant.0 c.loop-item.invariant.1 c.in_err-put_item.ensures)

pub returns : goal.returns
returns g c =
    let all : take c.loop-item.item-index c.args.items.now ≡ c.args.items.now = take_all c.loop-item.item-index c.args.items.now (omega arith) in
    puts_ok _ (rw all at c.loop-item.invariant.0) c.loop-item.invariant.1
