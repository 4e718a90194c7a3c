use Rattle.std.proofs.Common.{◌++◌, [], refl}
use Rattle.std.specs.Prelude.{slice_index_or}
use Rattle.diagram_program.specs.Bytes.{space}
use Rattle.io_text.proofs.Sending.{sends_prefix, sends_last, sends_none, sends_err}
use Rattle.text_drawing.specs.Page.{before, escaped, turn}
use Rattle.text_drawing.specs.Pictures.{looks_of}
use Rattle.text_drawing.proofs.page.add_place.Goals as goal

pub returns-in_err-add_turn : goal.returns-in_err-add_turn
returns-in_err-add_turn g c = sends_err _ _ _ _ _ _ c.from_residual.ensures.0
    (let looks = looks_of c.args.line in
    let turned = turn (before looks c.args.at) (looks c.args.at) in
    let char = escaped (slice_index_or c.args.line.text.now c.args.at space) in
    sends_prefix _ _ _ c.args.buffer.now c.args.buffer.now (turned ++ char) [] turned char refl (sends_none _ c.args.buffer.now)
    (rw (c.look_before.ensures, c.look_at.ensures) at c.in_err-add_turn.ensures))

pub returns : goal.returns
returns g c =
    let looks = looks_of c.args.line in
    let turned = turn (before looks c.args.at) (looks c.args.at) in
    let char = escaped (slice_index_or c.args.line.text.now c.args.at space) in
    sends_last _ _ _ _ _ _ (turned ++ char) turned char _ refl
    (rw (c.look_before.ensures, c.look_at.ensures) at c.in_ok-add_turn.ensures) (rw c.char_at.ensures at c.add_escaped.ensures)
