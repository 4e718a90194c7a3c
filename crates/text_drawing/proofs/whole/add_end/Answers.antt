use Rattle.std.proofs.Common.{◌++◌, [], refl}
use Rattle.io_text.proofs.Sending.{sends_prefix, sends_last, sends_none, sends_err}
use Rattle.text_drawing.specs.Showing.{tail_of, why_of}
use Rattle.text_drawing.proofs.whole.add_end.Goals as goal

pub returns-in_err-add_why_of : goal.returns-in_err-add_why_of
returns-in_err-add_why_of g c = sends_err _ _ _ _ _ _ c.from_residual.ensures.0
    (let x = c.args.picture in
    let notes = why_of x.coil x.program.now x.marks.now in
    let tail = tail_of x.style x.program.now x.after.now in
    sends_prefix _ _ _ c.args.buffer.now c.args.buffer.now (notes ++ tail) [] notes tail refl (sends_none _ c.args.buffer.now) c.in_err-add_why_of.ensures)

pub returns : goal.returns
returns g c =
    let x = c.args.picture in
    let notes = why_of x.coil x.program.now x.marks.now in
    let tail = tail_of x.style x.program.now x.after.now in
    sends_last _ _ _ _ _ _ (notes ++ tail) notes tail _ refl c.in_ok-add_why_of.ensures c.add_tail_of.ensures
