use Rattle.std.proofs.Common.{None, ◌∷◌, [], ◌++◌, refl, ◌∙◌, arith}
use Rattle.js_tree.specs.Arena.{pending_of}
use Rattle.js_tree.proofs.Index.{all_still, function_kept}
use Rattle.js_tree.proofs.script.Script.add_function.Goals as goal

pub invariant_of-self : goal.invariant_of-self
invariant_of-self c =
    all_still (record { kept = c.self.inside.nodes.items; pending = c.self.inside.pending.items; filled = c.self.inside.filled.items }) c.self.inside.functions c.self.invariant _ _ _ c.self.inside.functions
    c.in_err-reserve.ensures.items refl refl (λ _. refl)

pub invariant_of-self-2 : goal.invariant_of-self-2
invariant_of-self-2 c =
    function_kept (record { kept = c.self.inside.nodes.items; pending = c.self.inside.pending.items; filled = c.self.inside.filled.items }) c.self.inside.functions c.put_function.new.index c.self.invariant
    c.args.head c.args.from c.args.to c.args.braces c.len-number.result c.len-body.result (omega arith) (omega arith) c.if-number-ge-NODES_END.false (omega arith) c.in_ok-put_function.ensures.ok _ _ _
    (c.push_reserved.ensures.items ∙ (λ i. c.in_ok-reserve.ensures.items i ++ record { node = c.with_body-node.ensures i; from = c.args.from; to = c.args.to } ∷ []))
    (c.push_reserved-2.ensures.items ∙ (λ i. c.in_ok-reserve-2.ensures.items i ++ pending_of c.len-number.result c.args.braces ∷ []))
    (c.push_reserved-3.ensures.items ∙ (λ i. c.in_ok-reserve-3.ensures.items i ++ None ∷ []))
