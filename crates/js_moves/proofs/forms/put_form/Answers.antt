use Rattle.js_moves.proofs.FormsPut.{form-put}
use Rattle.js_moves.proofs.forms.put_form.Goals as goal

pub returns : goal.returns
returns g c = λ dispatched ts w x stands is there.
    form-put g.row.D.Denot dispatched ts w c.put_frame.result c.args.stack.now
    c.put_frame.new.stack c.form_frame.result c.args.work x c.new.result c.form_frame.ensures
    c.new.ensures is there (c.put_frame.ensures dispatched ts w stands)
