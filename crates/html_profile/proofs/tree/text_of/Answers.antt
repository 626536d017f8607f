use Rattle.std.proofs.Common.{Err, ap, ◌∙◌}
use Rattle.html_profile.proofs.Trees.{units_are}
use Rattle.html_profile.proofs.Utf8Pieces.{some_text}
use Rattle.html_profile.proofs.tree.text_of.Goals as goal

pub returns-in-Ok : goal.returns-in-Ok
returns-in-Ok c = units_are c.in-Ok.ensures.ok

pub unreachable-requires : goal.unreachable-requires
unreachable-requires c = some_text c.args.bytes.now c.requires (c.from_utf8.ensures.no_text c.in-Err-NotUtf8.field-0-0 (c.in-Err-NotUtf8.is ∙ ap Err c.in-Err-NotUtf8.field-0-is))
