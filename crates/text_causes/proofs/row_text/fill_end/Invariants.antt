use Rattle.std.proofs.Common.{◌≡◌, ◌*◌, take}
use Rattle.io_text.specs.Text.{after_commas}
use Rattle.text_causes.specs.Rows.{bits}
use Rattle.text_causes.proofs.row_text.fill_end.Given as goal

abbrev pub invariant-loop-place : goal.invariant-loop-place
invariant-loop-place l = take (2 * l.place) l.text ≡ after_commas (bits l.listed l.number l.place)
