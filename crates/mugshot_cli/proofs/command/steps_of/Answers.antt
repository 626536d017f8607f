use Rattle.std.proofs.Common.{◌≡◌, string_bytes, codes, decimal, rules}
use Rattle.mugshot_cli.proofs.Spelling.{budget_there}
use Rattle.mugshot_cli.proofs.command.steps_of.Goals as goal

pub returns-in_ok-n-in-len2 : goal.returns-in_ok-n-in-len2
returns-in_ok-n-in-len2 c =
    let option : string_bytes c.option-item.result ≡ codes "--steps" = search rules in
    let spelled : string_bytes c.spelled-item.result ≡ decimal c.in_ok-n-in-len2.n = search rules in
    budget_there (λ word. string_bytes word) c.args.words.now c.option-item.result c.spelled-item.result _ c.in-len2.len_at_least c.in-len2.len_below c.option-item.is c.spelled-item.is option spelled
    (c.in_ok-n-in-len2.ensures.0, c.in_ok-n-in-len2.ensures.1)
