use Rattle.std.proofs.Common.{◌≡◌, ◌++◌, Some, ap, subst, sym, ◌∙◌}
use Rattle.js_frames.specs.Begun.{begun_focus, begun_frames}
use Rattle.js_frames.specs.Reading.{last}
use Rattle.js_frames.specs.inner.Advances.{MovesBy, site_of}
use Rattle.js_frames.proofs.Advancing.{begin-advances, finish-advances, value-advances}
use Rattle.js_frames.proofs.stack.Stack.advance_frame.Goals as goal

pub returns-in-Finish : goal.returns-in-Finish
returns-in-Finish g c =
    let f = c.in-Some.frame.now in
    let is : last c.args.self.now.frames.items ≡ Some f = ap last (sym c.deref.ensures.value)
    ∙ sym c.in-Some.ensures.value in
    let m = subst (MovesBy c.args.texts.now f) c.in-Finish.is c.in_ok-next_move.ensures in
    finish-advances g.row.D.Denot c.args.texts.now c.count-texts.ensures.ordered c.args.self.now
    c.give.new.self f c.requires.sound is
    c.give.ensures.base c.requires.rests c.give.ensures.focus c.give.ensures.frames
    c.give.ensures.context m.1 m.0

pub returns-in-Take : goal.returns-in-Take
returns-in-Take g c =
    let f = c.in-Some.frame.now in
    let is : last c.args.self.now.frames.items ≡ Some f = ap last (sym c.deref.ensures.value)
    ∙ sym c.in-Some.ensures.value in
    let m = subst (MovesBy c.args.texts.now f) c.in-Take.is c.in_ok-next_move.ensures in
    value-advances g.row.D.Denot c.args.texts.now c.count-texts.ensures.ordered c.args.self.now
    c.take.new.self f c.requires.sound is
    c.take.ensures.base c.requires.rests c.in-Take.value c.take.ensures.focus
    (c.take.ensures.frames f is) c.take.ensures.context m.1 m.0

pub returns-in_ok-begin_next-in-Begin : goal.returns-in_ok-begin_next-in-Begin
returns-in_ok-begin_next-in-Begin g c =
    let ts = c.args.texts.now in
    let f = c.in-Some.frame.now in
    let is : last c.args.self.now.frames.items ≡ Some f = ap last (sym c.deref.ensures.value)
    ∙ sym c.in-Some.ensures.value in
    let m = subst (MovesBy c.args.texts.now f) c.in-Begin.is c.in_ok-next_move.ensures in
    let site = c.operand_site-site.ensures ts in
    let around = c.outermost_around-outermost.ensures in
    begin-advances g.row.D.Denot ts c.count-texts.ensures.ordered c.args.self.now
    c.begin_next.new.self f c.requires.sound is
    c.begin_next.ensures.base c.requires.rests c.in-Begin.node
    (c.in_ok-begin_next-in-Begin.ensures.focus ∙ ap (begun_focus ts) site)
    (c.in_ok-begin_next-in-Begin.ensures.frames
    ∙ (ap (λ x. c.args.self.now.frames.items ++ begun_frames ts x
    c.outermost_around-outermost.result) site
    ∙ ap (λ o. c.args.self.now.frames.items ++ begun_frames ts
    (site_of ts f c.in-Begin.node) o) around))
    (c.in_ok-begin_next-in-Begin.ensures.context f is) m.1 m.0
