use Rattle.std.proofs.Common.{◌≡◌, ℕ, List, ◌∙◌}
use Rattle.std.proofs.lemmas.Result.{IfOk-weaker}
use Rattle.mug_text.specs.Text.{IsText}
use Rattle.mug_text.proofs.Reading.{text_from_collected}
use Rattle.mug_text.proofs.text.JText.of_str.Goals as goal

pub returns : goal.returns
returns c =
    IfOk-weaker _ (λ (text : List ℕ). text ≡ c.in_ok-collect.field-0.items) (λ (made : List ℕ). IsText c.args.text.now made)
    (λ made is. text_from_collected c.args.text.now made c.encode_utf16.result c.utf8.text c.encode_utf16.ensures.text c.encode_utf16.ensures.pending (c.in_ok-collect.ensures.ran.0, c.in_ok-collect.ensures.ran.1, is ∙ c.in_ok-collect.ensures.ran.2.0)) c.whole.ensures
