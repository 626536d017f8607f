use Rattle.std.proofs.Common.{◌∙◌}
use Rattle.js_table.proofs.Places.{added-new, on_ok_map}
use Rattle.js_table.proofs.table.Table.put_units.Goals as goal

pub returns-clause-ok : goal.returns-clause-ok
returns-clause-ok c =
    on_ok_map c.add.result
    (λ e. e ∙ added-new c.args.name.now c.in_ok-name.name c.args.value c.in-Some.value c.args.listed c.args.self.now c.offer.new.self c.in_ok-name.ensures c.in-Some.ensures.back c.in-Some.ensures.unchanged c.in-Some.ensures.there)
    c.add.ensures.ok
