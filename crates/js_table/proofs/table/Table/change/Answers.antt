use Rattle.js_table.proofs.ElementLemmas.{changed}
use Rattle.js_table.proofs.table.Table.change.Goals as goal

pub returns : goal.returns
returns c = changed c.args.name.now c.args.value c.args.self.now c.replace.new.self c.replace.result c.replace.ensures.found c.replace.ensures.replaced c.replace.ensures.unchanged
