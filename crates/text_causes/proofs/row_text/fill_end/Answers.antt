use Rattle.std.proofs.Common.{◌∙◌, ap, arith}
use Rattle.io_text.specs.Text.{bit_text}
use Rattle.text_causes.proofs.RowLaws.{bit_more}
use Rattle.text_causes.proofs.row_text.fill_end.Goals as goal

pub loop-place-preserved : goal.loop-place-preserved
loop-place-preserved c =
    bit_more c.loop-place.text c.args.listed c.args.number c.loop-place.place c.digit.result (omega arith) c.loop-place.invariant
    (c.digit.ensures ∙ ap bit_text c.bit_of.ensures)
