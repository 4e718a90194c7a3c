use Rattle.std.proofs.Common.{sym, subst}
use Rattle.csv.specs.Reading.{AreRecords, default_config, strip_bom}
use Rattle.io_text.specs.Text.{records_of}
use Rattle.io_text.proofs.Whole.{are_records_of}
use Rattle.io_text.proofs.records.read_from.Goals as goal

pub returns-clause-all : goal.returns-clause-all
returns-clause-all c =
    let text = c.args.text.now in (
      strip_bom text,
      c.from_reader.ensures.source,
      subst (λ s. AreRecords default_config s (strip_bom text) (records_of text)) (sym c.from_reader.ensures.state) (are_records_of text),
    )
