use Rattle.std.proofs.Common.{◌≡◌, true, None, inl, Ok, List, ℕ, sym, ◌∙◌, ap, subst}
use Rattle.std.specs.Str.{IsAscii}
use Rattle.url.specs.Parser.{parse_url}
use Rattle.mug_text.proofs.Texts.{bytes_back, text_or_stop, well_formed}
use Rattle.mug_text.specs.TextFault.{Refuses}
use Rattle.arrival_file.specs.Format.{is_serialised, url}
use Rattle.arrival_file.proofs.FieldValues.{ascii_text, no_text, same_text, url_there}
use Rattle.arrival_file.proofs.reading.url_text.Goals as goal

pub returns-in_default-clause-gives : goal.returns-in_default-clause-gives
returns-in_default-clause-gives c = inl (no_text c.args.field.now c.in_default.ensures.cases.0)

pub returns-in-Ok-from_utf8-clause-gives : goal.returns-in-Ok-from_utf8-clause-gives
returns-in-Ok-from_utf8-clause-gives c =
    let field = c.args.field.now in
    let same : c.in-Ok.text.now ≡ field = c.in-Ok.ensures.cases.0 in
    let yes : c.in_ok-is_serialised.field-0 ≡ true = cc in
    let ascii : IsAscii c.in-Ok.text.now = c.in_ok-is_serialised.ensures.ascii yes in
    let test : is_serialised c.in-Ok.text.now (parse_url None c.in-Ok.text.now) ≡ true = sym c.in_ok-is_serialised.ensures.test ∙ yes in
    let there : url field ≡ Ok field = subst (λ (l : List ℕ). url l ≡ Ok l) same (url_there c.in-Ok.text.now ascii test) in
    there ∙ ap Ok (same_text field c.in-Ok-from_utf8.base (subst IsAscii same ascii) c.in-Ok-from_utf8.ensures.ok)

pub returns-in-Err-NotUtf8-clause-gives : goal.returns-in-Err-NotUtf8-clause-gives
returns-in-Err-NotUtf8-clause-gives c =
    let field = c.args.field.now in
    let same : c.in-Ok.text.now ≡ field = c.in-Ok.ensures.cases.0 in
    let yes : c.in_ok-is_serialised.field-0 ≡ true = cc in
    let text = ascii_text field (subst IsAscii same (c.in_ok-is_serialised.ensures.ascii yes)) in
    let fault : Refuses c.in-Err-NotUtf8.field-0 field = c.in-Err-NotUtf8.ensures.refused in
    absurd (text_or_stop (rw c.in-Err-NotUtf8.field-0-is at fault) field (well_formed text) (bytes_back text))
