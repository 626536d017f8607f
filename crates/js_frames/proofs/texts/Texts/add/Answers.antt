use Rattle.std.proofs.Common.{[], ◌∷◌, ◌++◌, Some, sym, subst, ap, ◌∙◌}
use Rattle.js_calls.specs.Texts.{IsRead}
use Rattle.js_tree.specs.Arena.{IsOrdered}
use Rattle.js_frames.specs.Arenas.{arena_of}
use Rattle.js_frames.proofs.Arenas.{all-with}
use Rattle.js_frames.proofs.texts.Texts.add.Goals as goal

pub invariant_of-self-2 : goal.invariant_of-self-2
invariant_of-self-2 c =
    let pushed =
    sym (c.push_reserved.ensures.items ∙ ap (λ ts. ts ++ Some c.args.script ∷ [])
    c.reserve.ensures.items) in (
      λ x.
          subst (λ ts. IsOrdered (arena_of ts x)) pushed
          (all-with IsOrdered c.skip_to.new.scripts.items c.args.script
          (λ y. subst IsOrdered (sym (c.skip_to.ensures.same y)) (c.self.invariant.0 y))
          c.count-nodes.ensures.ordered x),
      λ x.
          subst (λ ts. IsRead (arena_of ts x)) pushed
          (all-with IsRead c.skip_to.new.scripts.items c.args.script
          (λ y. subst IsRead (sym (c.skip_to.ensures.same y)) (c.self.invariant.1 y))
          c.requires.read x),
    )
