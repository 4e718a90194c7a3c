use Rattle.std.proofs.Common.{List, ℕ}
use Rattle.cli_inputs.specs.Setting.{given_by}
use Rattle.cli_export.specs.Exporting.{BreaksExport}
use Rattle.cli_perform.proofs.Endings.{with_same}
use Rattle.cli_perform.proofs.performing.export_text.Goals as goal

pub returns-clause-failed : goal.returns-clause-failed
returns-clause-failed g c = λ save status.
    with_same
    (λ (name : List ℕ). BreaksExport (given_by c.args.texts.now) c.args.request.now.language name c.args.request.now.bits (g.O.Sink.log c.args.out.now) (g.O.Sink.log c.write_export.new.out) (g.E.Sink.log c.args.err.now) (g.E.Sink.log c.write_export.new.err))
    c.name_of.ensures (c.write_export.ensures.failed save status)
