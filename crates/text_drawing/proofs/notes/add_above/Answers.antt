use Rattle.std.proofs.Common.{◌++◌, true, [], refl, sym, append_assoc}
use Rattle.io_text.proofs.Sending.{sends_prefix, sends_last, sends_more, sends_none, sends_err}
use Rattle.text_drawing.specs.Notes.{above, moment_text, var_notes}
use Rattle.text_drawing.proofs.notes.add_above.Goals as goal

pub returns-in_err-add_moment : goal.returns-in_err-add_moment
returns-in_err-add_moment g c = sends_err _ _ _ _ _ _ c.from_residual.ensures.0
    (let x = c.args.picture in
    let notes = var_notes c.args.gap.now true x.program.now.decls x.after.now in
    sends_prefix _ _ _ c.args.buffer.now c.args.buffer.now (above c.args.begin.now c.args.gap.now x.program.now x.after.now c.args.meaning.now) [] (moment_text c.args.begin.now x.after.now) (notes ++ c.args.meaning.now) refl
    (sends_none _ c.args.buffer.now) c.in_err-add_moment.ensures)

pub returns-in_err-add_var_notes : goal.returns-in_err-add_var_notes
returns-in_err-add_var_notes g c = sends_err _ _ _ _ _ _ c.from_residual-in_err-add_var_notes.ensures.0
    (let x = c.args.picture in
    let notes = var_notes c.args.gap.now true x.program.now.decls x.after.now in
    sends_prefix _ _ _ _ _ (above c.args.begin.now c.args.gap.now x.program.now x.after.now c.args.meaning.now) (moment_text c.args.begin.now x.after.now) notes c.args.meaning.now refl c.in_ok-add_moment.ensures
    c.in_err-add_var_notes.ensures)

pub returns : goal.returns
returns g c =
    let x = c.args.picture in
    let notes = var_notes c.args.gap.now true x.program.now.decls x.after.now in
    sends_last _ _ _ _ _ _ (above c.args.begin.now c.args.gap.now x.program.now x.after.now c.args.meaning.now) (moment_text c.args.begin.now x.after.now ++ notes) c.args.meaning.now _
    (sym (append_assoc (moment_text c.args.begin.now x.after.now) notes c.args.meaning.now))
    (sends_more _ _ _ _ _ _ (moment_text c.args.begin.now x.after.now) notes c.in_ok-add_moment.ensures c.in_ok-add_var_notes.ensures) c.add.ensures
