use Rattle.std.proofs.Common.{◌≡◌, false, rules, reverse, sym, ap, ◌∙◌}
use Rattle.html_profile.specs.Tree.{with_closed}
use Rattle.html_profile.specs.Building.{state_of}
use Rattle.html_profile.specs.Standing.{names_of}
use Rattle.html_profile.proofs.LastOnes.{none_closed}
use Rattle.html_profile.proofs.tree.Builder.close.Goals as goal

pub returns-then-not-has-clause-is : goal.returns-then-not-has-clause-is
returns-then-not-has-clause-is c =
    let open_ones = reverse c.args.self.now.elements.items in
    let other : c.has.result ≡ false = search rules in
    sym (ap (with_closed (state_of c.args.self.now)) (none_closed c.args.name.now open_ones (sym (c.has.ensures (names_of open_ones) c.requires.known) ∙ other)))
