use Rattle.std.proofs.Common.{reverse, ap, subst, arith}
use Rattle.std.proofs.lemmas.List.{nil_from_length}
use Rattle.js_tree.specs.Walk.{wants}
use Rattle.js_tree.proofs.Walks.{IsWalked, top_is, walk_begun, walk_looked, walk_ended}
use Rattle.js_tree.proofs.script.Script.texts_in.Goals as goal

pub loop-init : goal.loop-init
loop-init c =
    walk_begun (wants c.args.wanted) c.args.self.now c.args.statements.now c.requires (reverse c.push_nodes.new.stack.items) (reverse c.new-stack.result.items) c.in_ok-push_nodes.ensures
    (ap reverse c.new-stack.ensures.items) c.new-found.result.items c.new-found.ensures.items

pub returns-in-None : goal.returns-in-None
returns-in-None c =
    walk_ended c.args.wanted c.args.self.now c.args.statements.now c.loop.found.items (reverse c.loop.stack.items)
    (ap reverse (nil_from_length c.loop.stack.items (omega (arith, c.in-None.ensures.cases.0)))) c.loop.invariant

pub look_at-requires : goal.look_at-requires
look_at-requires c =
    (subst (IsWalked (wants c.args.wanted) c.args.self.now c.args.statements.now c.loop.found.items) (top_is c.loop.stack.items c.pop.new.self.items c.in-Some.item c.in-Some.ensures.items) c.loop.invariant).within

pub loop-preserved : goal.loop-preserved
loop-preserved c =
    walk_looked c.args.wanted c.args.self.now c.args.statements.now c.loop.found.items c.in-Some.item (reverse c.pop.new.self.items)
    (subst (IsWalked (wants c.args.wanted) c.args.self.now c.args.statements.now c.loop.found.items) (top_is c.loop.stack.items c.pop.new.self.items c.in-Some.item c.in-Some.ensures.items) c.loop.invariant)
    (reverse c.look_at.new.stack.items) c.in_ok-look_at-in-Some.ensures.stack c.in_ok-look_at-in-Some.ensures.within c.look_at.new.found.items c.in_ok-look_at-in-Some.ensures.found
