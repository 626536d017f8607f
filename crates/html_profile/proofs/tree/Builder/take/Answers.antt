use Rattle.std.proofs.Common.{IsUtf8, ◌++◌, sym, ap, subst, ◌∙◌}
use Rattle.std.proofs.lemmas.Str.{IsUtf8-append}
use Rattle.html_profile.specs.Decoding.{DecodingPiece}
use Rattle.html_profile.proofs.tree.Builder.take.Goals as goal

pub returns-in_ok-extend_from_slice-in-Text-clause-decodes : goal.returns-in_ok-extend_from_slice-in-Text-clause-decodes
returns-in_ok-extend_from_slice-in-Text-clause-decodes c =
    let old = c.args.self.now.words.items in
    let words = subst DecodingPiece c.in-Text.is c.requires.piece in
    subst IsUtf8 (sym (c.in_ok-extend_from_slice-in-Text.ensures.items ∙ ap (λ l. old ++ l) c.as_slice.ensures)) (IsUtf8-append old c.in-Text.words c.requires.decodes words)
