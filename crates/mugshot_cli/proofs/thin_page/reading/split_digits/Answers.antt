use Rattle.std.proofs.Common.{arith}
use Rattle.std.proofs.lemmas.List.Elements.{All-more}
use Rattle.mugshot_cli.specs.ThinPage.inner.Parts.{IsDigit}
use Rattle.mugshot_cli.proofs.thin_page.reading.split_digits.Goals as goal

pub loop-len-preserved : goal.loop-len-preserved
loop-len-preserved c =
    (omega arith, All-more IsDigit c.args.bytes.now c.loop-len.len 0 c.loop-len-test.true c.loop-len.invariant.1 (c.if-bytes-len-ge48.true, c.if-bytes-len-le57.true))
