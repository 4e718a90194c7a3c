use Rattle.std.proofs.Common.{◌∷◌, [], codes, refl}
use Rattle.io_text.specs.Text.{lines_text}
use Rattle.io_text.proofs.Lines.{line_prefix}
use Rattle.io_text.proofs.Sending.{sends_last, sends_none, sends_err}
use Rattle.text_lists.specs.SteadyText.{steady_rows, steady_text}
use Rattle.text_lists.proofs.names.add_steady.Goals as goal

pub returns-in_err-add_header-clause-sends : goal.returns-in_err-add_header-clause-sends
returns-in_err-add_header-clause-sends g c = sends_err _ _ _ _ _ _ c.from_residual.ensures.0 (line_prefix _ _ _ c.args.buffer.now c.args.buffer.now [] _ (steady_rows c.args.program.now c.args.set.now c.args.value) (codes "name" ∷ codes "use" ∷ codes "rung" ∷ codes "row" ∷ codes "column" ∷ []) refl (sends_none _ c.args.buffer.now) c.in_err-add_header.ensures)

pub returns-clause-sends : goal.returns-clause-sends
returns-clause-sends g c =
    let p = c.args.program.now in
    sends_last _ _ _ _ _ _ (steady_text p c.args.set.now c.args.value) _ (lines_text (steady_rows p c.args.set.now c.args.value)) _ refl c.in_ok-add_header.ensures c.add_names.ensures.sends
