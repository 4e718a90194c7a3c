use Rattle.std.proofs.Common.{ap}
use Rattle.std.specs.Prelude.{slice_index_or}
use Rattle.diagram_program.specs.Bytes.{space}
use Rattle.io_text.proofs.Sending.{sends_err}
use Rattle.text_drawing.specs.Page.{escaped}
use Rattle.text_power.proofs.Each.{cut_off, more, none_yet}
use Rattle.text_drawing.proofs.page.add_escaped_line.Goals as goal

pub loop-at-init : goal.loop-at-init
loop-at-init g c = none_yet _ _ _

pub returns-in_err-add_escaped : goal.returns-in_err-add_escaped
returns-in_err-add_escaped g c = sends_err _ _ _ _ _ _ c.from_residual.ensures.0
    (cut_off (λ at. escaped (slice_index_or c.args.text.now at space)) _ c.loop-at.at _ _ _ _ _ _ c.loop-at-test.true (ap escaped c.char_at.ensures)
    c.loop-at.invariant c.in_err-add_escaped.ensures)

pub loop-at-preserved : goal.loop-at-preserved
loop-at-preserved g c =
    more (λ at. escaped (slice_index_or c.args.text.now at space)) c.loop-at.at _ _ _ _ _ _ _ (ap escaped c.char_at.ensures) c.loop-at.invariant
    c.in_ok-add_escaped.ensures
