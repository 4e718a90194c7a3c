use Rattle.io_text.specs.Left.{IsPlain}
use Rattle.io_text.specs.Text.{records_of}
use Rattle.text_report.proofs.Reading.{IsSplit}
use Rattle.text_report.proofs.rows.read_rows.Given as goal

abbrev pub invariant-loop : goal.invariant-loop
invariant-loop l = IsPlain l.records × IsSplit (records_of l.text) l.rows.items l.records
