use Rattle.std.proofs.Common.{◌≡◌, ◌++◌, ◌∷◌, [], true, false, length, map, reverse, rules, sym, ap, subst, ◌∙◌}
use Rattle.html_profile.specs.Names.{firsts, is_void}
use Rattle.html_profile.specs.declared.tree.Open.{Open}
use Rattle.std.proofs.lemmas.Bool.{cond-true, cond-false}
use Rattle.html_profile.specs.Tree.{script_of, handlers_of, name_at}
use Rattle.html_profile.proofs.Trees.{added}
use Rattle.html_profile.specs.Building.{state_of, IsKnown}
use Rattle.html_profile.specs.Standing.{HasStanding, names_of}
use Rattle.html_profile.proofs.LastOnes.{reverse_last, still_known, known_more}
use Rattle.html_profile.proofs.tree.Builder.add.Goals as goal
use Rattle.html_profile.proofs.tree.Builder.add.Goals.{then-not-is_void+in_ok-push-2+in_ok-push-3, else-not-is_void}

pub returns-clause-is : goal.returns-clause-is
returns-clause-is c =
    let old = c.args.self.now in
    let d = c.in_ok-element.ensures in
    let n : c.len-node.result ≡ length old.nodes.items = search rules in
    let nodes = c.in_ok-push.ensures.items ∙ ap (λ v. v.items ++ c.in_ok-element.element ∷ []) d.nodes ∙ ap (λ e. old.nodes.items ++ e ∷ []) d.element in
    let words = d.words ∙ ap (λ l. l ++ c.args.tag.text) c.requires.words in
    let scripts = d.scripts ∙ ap (λ k. old.scripts.items ++ script_of old.total k c.args.tag) n in
    let handlers = d.handlers ∙ ap (λ k. old.handlers.items ++ handlers_of old.total k (firsts [] c.args.tag.attributes)) n in
    let names = d.names ∙ ap (λ k. old.names.items ++ map (name_at old.total k) (firsts [] c.args.tag.attributes)) n in
    let void : c.is_void.result ≡ is_void c.args.tag.name = c.is_void.ensures ∙ ap is_void c.as_slice.ensures in
    let name = c.args.tag.name in
    let os = reverse old.elements.items in
    let o : Open = record { node = length old.nodes.items; name = name } in
    elim c.if-not-is_void.branch [
      | then-not-is_void+in_ok-push-2+in_ok-push-3 w ↦
          let is_not : c.is_void.result ≡ false = search rules in
          ap state_of w.self-is
          ∙ added old.total (state_of old) _ c.args.tag nodes
          (reverse_last c.describe.new.self.elements.items w.push-then-not-is_void-2.new.self.items _ w.in_ok-push-3.ensures.items
          ∙ ap (λ v. record { node = c.len-node.result; name = name } ∷ reverse v.items) d.elements ∙ ap (λ k. record { node = k; name = name } ∷ os) n
          ∙ sym (cond-false (is_void name) os (o ∷ os) (sym void ∙ is_not)))
          words scripts handlers names
      | else-not-is_void w ↦
          let is : c.is_void.result ≡ true = search rules in
          ap state_of w.self-is
          ∙ added old.total (state_of old) _ c.args.tag nodes (ap (λ v. reverse v.items) d.elements ∙ sym (cond-true (is_void name) os (o ∷ os) (sym void ∙ is))) words scripts handlers names
    ]

pub returns-clause-known : goal.returns-clause-known
returns-clause-known c =
    let before = c.describe.new.self.elements.items in
    let known : HasStanding c.describe.new.self.standing (names_of (reverse before)) =
    still_known _ _ _ _ c.in_ok-element.ensures.standing (ap (λ v. names_of (reverse v.items)) c.in_ok-element.ensures.elements) c.requires.known in
    elim c.if-not-is_void.branch [
      | then-not-is_void+in_ok-push-2+in_ok-push-3 w ↦
          subst IsKnown (sym w.self-is)
          (known_more w.push-then-not-is_void.new.self before w.push-then-not-is_void-2.new.self.items _ w.as_slice-then-not-is_void.result.now w.in_ok-push-3.ensures.items w.as_slice-then-not-is_void.ensures
          (w.in_ok-push-2.ensures (names_of (reverse before)) known))
      | else-not-is_void w ↦ subst IsKnown (sym w.self-is) known
    ]
