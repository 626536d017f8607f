use Rattle.std.proofs.Common.{ap, sym, ◌∙◌}
use Rattle.std.specs.Vec.{vec_len}
use Rattle.js_frames.specs.declared.frame.Focus.TheVariants as focus
use Rattle.js_frames.proofs.Advancing.{take-advances}
use Rattle.js_frames.proofs.Tops.{last-there}
use Rattle.js_frames.proofs.stack.Stack.advance.Goals as goal

pub returns-in_ok-take_value-in-Value : goal.returns-in_ok-take_value-in-Value
returns-in_ok-take_value-in-Value g c =
    let found =
    last-there c.args.self.now.frames.items (vec_len c.args.self.now.frames)
    c.args.self.now.frames.ok.0
    (sym c.is_empty.ensures ∙ c.if-is_empty.false) in
    take-advances g.row.D.Denot c.args.texts.now c.count-texts.ensures.ordered c.args.self.now
    c.take_value.new.self found.0 c.requires
    found.1 c.take_value.ensures.base c.in_ok-value-in-Value.value
    (c.in-Value.is ∙ ap focus.Value (sym c.in_ok-value-in-Value.ensures))
    c.in_ok-take_value-in-Value.ensures.focus
    (c.in_ok-take_value-in-Value.ensures.frames found.0 found.1)
    (c.in_ok-take_value-in-Value.ensures.context found.0 found.1)
