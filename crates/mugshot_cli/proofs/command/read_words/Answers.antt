use Rattle.std.proofs.Common.{◌∙◌, sym, string_bytes}
use Rattle.mugshot_cli.proofs.Spelling.{all_behind, no_capture}
use Rattle.mugshot_cli.proofs.command.read_words.Goals as goal

pub returns-in-capture-clause-usage : goal.returns-in-capture-clause-usage
returns-in-capture-clause-usage c = λ usage found spells.
    no_capture (λ word. string_bytes word) c.args.words.now _ found c.name-item.result (all_behind c.args.words.now c.name-item.result c.in-len1-up.len_at_least c.name-item.is) (sym c.as_str.ensures.value ∙ c.in-capture.is) (c.capture_of.ensures.usage usage) spells
