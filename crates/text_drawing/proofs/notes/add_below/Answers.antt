use Rattle.std.proofs.Common.{◌++◌, false, [], refl, sym, append_assoc}
use Rattle.io_text.proofs.Sending.{sends_prefix, sends_last, sends_more, sends_none, sends_err}
use Rattle.text_drawing.specs.Notes.{below, var_notes}
use Rattle.text_drawing.proofs.notes.add_below.Goals as goal

pub returns-in_err-add : goal.returns-in_err-add
returns-in_err-add g c = sends_err _ _ _ _ _ _ c.from_residual.ensures.0
    (let x = c.args.picture in
    let notes = var_notes c.args.gap.now false x.program.now.decls x.after.now in
    sends_prefix _ _ _ c.args.buffer.now c.args.buffer.now (below c.args.begin.now c.args.gap.now x.program.now x.after.now c.args.end.now) [] c.args.begin.now (notes ++ c.args.end.now) refl
    (sends_none _ c.args.buffer.now) c.in_err-add.ensures)

pub returns-in_err-add_var_notes : goal.returns-in_err-add_var_notes
returns-in_err-add_var_notes g c = sends_err _ _ _ _ _ _ c.from_residual-in_err-add_var_notes.ensures.0
    (let x = c.args.picture in
    let notes = var_notes c.args.gap.now false x.program.now.decls x.after.now in
    sends_prefix _ _ _ _ _ (below c.args.begin.now c.args.gap.now x.program.now x.after.now c.args.end.now) c.args.begin.now notes c.args.end.now refl c.in_ok-add.ensures
    c.in_err-add_var_notes.ensures)

pub returns : goal.returns
returns g c =
    let x = c.args.picture in
    let notes = var_notes c.args.gap.now false x.program.now.decls x.after.now in
    sends_last _ _ _ _ _ _ (below c.args.begin.now c.args.gap.now x.program.now x.after.now c.args.end.now) (c.args.begin.now ++ notes) c.args.end.now _
    (sym (append_assoc c.args.begin.now notes c.args.end.now))
    (sends_more _ _ _ _ _ _ c.args.begin.now notes c.in_ok-add.ensures c.in_ok-add_var_notes.ensures) c.add-2.ensures
