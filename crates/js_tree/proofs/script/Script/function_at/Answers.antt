use Rattle.std.proofs.Common.{◌<◌, length, subst, ◌∙◌}
use Rattle.std.specs.Prelude.{IfSome}
use Rattle.js_tree.specs.Arena.{Arena}
use Rattle.js_tree.proofs.Index.{function_within}
use Rattle.js_tree.proofs.script.Script.function_at.Goals as goal

pub returns-in-None-clause-within : goal.returns-in-None-clause-within
returns-in-None-clause-within c =
    subst (λ (a : Arena). IfSome c.copied.result (λ id. id.number < length a.kept)) c.self.view_is
    (function_within (record { kept = c.self.inside.nodes.items; pending = c.self.inside.pending.items; filled = c.self.inside.filled.items }) c.self.invariant.0 c.self.inside.functions c.self.invariant.1
    c.args.unit c.copied.result (c.copied.ensures ∙ c.get.ensures.value))
