use Rattle.std.proofs.Common.{◌≡◌, List, ℕ, [], ◌∷◌, ◌++◌, length, arith, sym, ap, ◌∙◌, subst}
use Rattle.std.proofs.lemmas.Grind.{common_steps}
use Rattle.sha2.specs.Sha256.{sha256}
use Rattle.resource_cache.specs.Bodies.{IsMissing}
use Rattle.resource_cache.specs.inner.Places.{IsNoted}
use Rattle.resource_cache.proofs.Holding.{holds_more, holds_still}
use Rattle.resource_cache.proofs.cache.Cache.add.Goals as goal

pub invariant_of-self-in_err-note : goal.invariant_of-self-in_err-note
invariant_of-self-in_err-note c =
    rw c.reserve.ensures.items
    (holds_still _ _ _ _ _ c.self.invariant c.in_err-note.ensures.err)

pub invariant_of-self-2 : goal.invariant_of-self-2
invariant_of-self-2 c =
    let bytes = c.args.bytes.now in
    let bodies = c.self.inside.bodies.items in
    let index = c.self.inside.index in
    let others = c.self.inside.others.items in
    let index' = c.note.new.index in
    let others' = c.note.new.others.items in
    let body : c.in_ok-body.body ≡ bytes = c.in_ok-body.ensures in
    let place : c.len-place.result ≡ length bodies =
    grind (arith, common_steps, c.len-place.ensures) in
    let missing : IsMissing bytes bodies =
    subst (λ (l : List (List ℕ)). IsMissing bytes l) (sym c.self.view_is) c.requires.new in
    let noted : IsNoted (sha256 bytes) (length bodies) index others index' others' =
    rw (← place, ← c.digest.ensures) c.in_ok-note.ensures.ok in
    let items : c.push_reserved.new.self.items ≡ bodies ++ bytes ∷ [] =
    c.push_reserved.ensures.items
    ∙ ap (λ (l : List (List ℕ)). l ++ c.in_ok-body.body ∷ []) c.reserve.ensures.items
    ∙ ap (λ (b : List ℕ). bodies ++ b ∷ []) body in
    rw items
    (holds_more bodies bytes missing index index' others others' c.self.invariant noted)
