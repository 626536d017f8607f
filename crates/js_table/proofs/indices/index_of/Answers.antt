use Rattle.js_table.proofs.ElementLemmas.{index_given, index_small}
use Rattle.js_table.proofs.indices.index_of.Goals as goal

pub returns-clause-index : goal.returns-clause-index
returns-clause-index c = index_given c.args.name.now c.index_of_key.result c.index_of_key.ensures

pub returns-clause-small : goal.returns-clause-small
returns-clause-small c = index_small c.args.name.now c.index_of_key.result c.index_of_key.ensures
