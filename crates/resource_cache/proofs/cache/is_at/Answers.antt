use Rattle.std.proofs.Common.{◌≡◌, Some, slice_get, refl, ap, sym, ◌∙◌}
use Rattle.std.proofs.lemmas.Option.{slice_get_past, slice_get_read}
use Rattle.std.proofs.lemmas.Slice.Eq.{bytes_eq-Decides}
use Rattle.resource_cache.proofs.cache.is_at.Goals as goal

some_same : {T : Type 0} (x y : T) → Some x ≡ Some y → x ≡ y
some_same x y same = cc

pub returns-in-Some : goal.returns-in-Some
returns-in-Some c =
    let bodies = c.args.bodies.now in
    let body = c.in-Some.body.now in
    let look = c.in-Some.ensures.lookup in
    let there : slice_get bodies c.args.place ≡ Some body =
    slice_get_read bodies _ c.args.place body refl look.3.0 look.1 in
    let test = bytes_eq-Decides c.as_slice.result.now c.args.bytes.now in (
      λ same. there ∙ ap Some (sym c.as_slice.ensures ∙ test.0 (sym c.eq.ensures ∙ same)),
      λ at. c.eq.ensures ∙ test.1 (c.as_slice.ensures ∙ some_same _ _ (sym there ∙ at)),
    )

pub returns-in-None : goal.returns-in-None
returns-in-None c =
    let past = slice_get_past c.args.bodies.now c.args.place c.in-None.ensures.lookup.3 in
    (λ no. absurd (cc), λ at. absurd (cc))
