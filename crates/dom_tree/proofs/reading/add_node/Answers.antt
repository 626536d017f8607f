use Rattle.std.proofs.Common.{◌≡◌, ◌<◌, ◌+◌, ◌∷◌, [], ◌++◌, length, take, false, sym, ap, subst, ◌∙◌, arith}
use Rattle.dom_tree.specs.Nodes.{Fits}
use Rattle.dom_tree.specs.Changes.{appended, would_cycle}
use Rattle.html_profile.specs.Numbering.{parent_in}
use Rattle.dom_tree.specs.Reading.{made_of, IsFront}
use Rattle.dom_tree.specs.inner.Kept.{nodes_of, bare, IsLinked}
use Rattle.dom_tree.proofs.Kept.{nodes_length}
use Rattle.dom_tree.proofs.Fronts.{node_is, whole_list, none_some, valid, parent_there, child_there, front_fits}
use Rattle.dom_tree.proofs.reading.add_node.Goals as goal

pub append_child-requires-clause-parent : goal.append_child-requires-clause-parent
append_child-requires-clause-parent c =
    let node = node_is c.args.doc.now.nodes c.args.id c.node.result.now (bare c.in_ok-node.node) c.node.ensures c.in_ok-node.ensures.is in
    let is = ap nodes_of c.deref_mut.ensures.value ∙ c.in_ok-push_node.ensures.ok ∙ ap (λ n. nodes_of c.args.nodes.now.items ++ n ∷ []) node in
    subst (λ n. c.in-Some.parent < n) (ap length (sym is) ∙ nodes_length c.deref_mut.result.now)
    (parent_there c.args.doc.now.nodes c.args.id c.in-Some.parent c.node.result.now (nodes_of c.args.nodes.now.items) c.requires.numbered c.requires.some c.node.ensures c.in-Some.is c.requires.linked.fits c.requires.front)

pub append_child-requires-clause-child : goal.append_child-requires-clause-child
append_child-requires-clause-child c =
    let node = node_is c.args.doc.now.nodes c.args.id c.node.result.now (bare c.in_ok-node.node) c.node.ensures c.in_ok-node.ensures.is in
    let is = ap nodes_of c.deref_mut.ensures.value ∙ c.in_ok-push_node.ensures.ok ∙ ap (λ n. nodes_of c.args.nodes.now.items ++ n ∷ []) node in
    subst (λ n. c.args.id < n) (ap length (sym is) ∙ nodes_length c.deref_mut.result.now)
    (child_there c.args.doc.now.nodes c.args.id c.in-Some.parent c.node.result.now (nodes_of c.args.nodes.now.items) c.requires.numbered c.requires.some c.node.ensures c.in-Some.is c.requires.linked.fits c.requires.front)

pub append_child-requires-clause-valid : goal.append_child-requires-clause-valid
append_child-requires-clause-valid c =
    let node = node_is c.args.doc.now.nodes c.args.id c.node.result.now (bare c.in_ok-node.node) c.node.ensures c.in_ok-node.ensures.is in
    let is = ap nodes_of c.deref_mut.ensures.value ∙ c.in_ok-push_node.ensures.ok ∙ ap (λ n. nodes_of c.args.nodes.now.items ++ n ∷ []) node in
    let fits = subst Fits (sym (ap nodes_of c.deref_mut.ensures.value) ∙ is) c.push_node.ensures.linked.fits in
    subst (λ l. would_cycle l c.in-Some.parent c.args.id ≡ false) (sym is)
    (valid c.args.doc.now.nodes c.args.id c.in-Some.parent c.node.result.now (nodes_of c.args.nodes.now.items) c.requires.numbered c.requires.some c.node.ensures c.in-Some.is c.requires.linked.fits c.requires.front fits)

pub unreachable-requires : goal.unreachable-requires
unreachable-requires c =
    let old = c.requires.numbered.below c.args.id c.requires.some c.requires.id in
    none_some old.0 (sym (ap parent_in c.node.ensures ∙ c.in-None.is) ∙ old.1)

pub returns-clause-linked : goal.returns-clause-linked
returns-clause-linked c =
    let len : c.push_node.new.nodes.len ≡ length c.append_child.new.nodes = omega (arith, c.deref_mut.ensures.len, c.append_child.auto.nodes) in
    let same : length c.push_node.new.nodes.items ≡ length c.append_child.new.nodes = omega (arith, ap length c.deref_mut.ensures.value, c.append_child.auto.nodes) in
    subst IsLinked (sym (whole_list c.push_node.new.nodes.len c.append_child.new.nodes c.push_node.new.nodes.items len same)) c.append_child.ensures.linked

pub returns-clause-front : goal.returns-clause-front
returns-clause-front c =
    let node = node_is c.args.doc.now.nodes c.args.id c.node.result.now (bare c.in_ok-node.node) c.node.ensures c.in_ok-node.ensures.is in
    let is = ap nodes_of c.deref_mut.ensures.value ∙ c.in_ok-push_node.ensures.ok ∙ ap (λ n. nodes_of c.args.nodes.now.items ++ n ∷ []) node in
    let len : c.push_node.new.nodes.len ≡ length c.append_child.new.nodes = omega (arith, c.deref_mut.ensures.len, c.append_child.auto.nodes) in
    let same : length c.push_node.new.nodes.items ≡ length c.append_child.new.nodes = omega (arith, ap length c.deref_mut.ensures.value, c.append_child.auto.nodes) in
    let whole = whole_list c.push_node.new.nodes.len c.append_child.new.nodes c.push_node.new.nodes.items len same in
    subst (IsFront c.args.doc.now.nodes (take (c.args.id + 1) c.args.doc.now.nodes))
    (sym (ap nodes_of whole ∙ c.append_child.ensures.is ∙ ap (appended c.in-Some.parent c.args.id) is))
    (front_fits c.args.doc.now.nodes c.args.id c.in-Some.parent c.node.result.now (nodes_of c.args.nodes.now.items) c.requires.numbered c.requires.some c.node.ensures c.in-Some.is c.requires.linked.fits c.requires.front)
