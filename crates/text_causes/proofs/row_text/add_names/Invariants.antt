use Rattle.std.proofs.Common.{map, take, slice_get}
use Rattle.io_text.specs.Buffer.{SendsAll}
use Rattle.io_text.specs.Text.{after_commas}
use Rattle.text_causes.specs.Rows.{name_in}
use Rattle.text_causes.proofs.row_text.add_names.Given as goal

abbrev pub invariant-loop-var : goal.invariant-loop-var
invariant-loop-var g l =
    SendsAll (g.W.Sink.log l.fn.writer) (g.W.Sink.log l.writer) l.fn.buffer l.buffer
    (after_commas (map (λ v. name_in (slice_get l.decls.vars v)) (take l.var-index l.listed)))
