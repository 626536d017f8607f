use Rattle.std.proofs.Common.{sym, ◌∙◌}
use Rattle.resource_cache.proofs.Noting.{noted_new}
use Rattle.resource_cache.proofs.places.note.Goals as goal

pub returns-in_ok-insert-clause-ok : goal.returns-in_ok-insert-clause-ok
returns-in_ok-insert-clause-ok c =
    noted_new c.args.digest c.args.place c.args.index.now c.insert.new.self
    c.args.others.now.items (sym c.contains_key.ensures ∙ c.if-contains_key.false)
    c.in_ok-insert.ensures.updates
