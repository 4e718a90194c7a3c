use Rattle.std.proofs.Common.{ℕ, Bool, true, false, List, Option}
use Rattle.io_text.specs.Log.{PutsPrefix, WriteLog}
use Rattle.io_text.proofs.Sending.{puts_err}
use Rattle.cli_inputs.specs.Explained.{explained, report_by}
use Rattle.cli_inputs.specs.FaultLine.{line_by}
use Rattle.cli_inputs.specs.declared.fault.ToolFault.{ToolFault}
use Rattle.search_differences.specs.declared.side.Side.{Side}
use Rattle.cli_inputs.proofs.Ends.{puts_cut, puts_next}
use Rattle.cli_inputs.proofs.explaining.write_report_by.Goals as goal

-- A line that is cut off, whether or not it is explained.
line_cut : (side : Option Side) (a b : WriteLog) (why : Bool) (text : List ℕ) (f : ToolFault) (column : Option ℕ) → PutsPrefix a b (line_by side f)
    → PutsPrefix a b (report_by side why text f column)
line_cut side a b true text f column h = puts_cut a b (line_by side f) (explained text f column) h
line_cut side a b false text f column h = h

pub returns-in_err-write_line : goal.returns-in_err-write_line
returns-in_err-write_line g c = puts_err _ _ _ _ c.from_residual.ensures.0 (line_cut c.args.side _ _ c.args.why c.args.text.now c.args.fault.now c.args.column c.in_err-write_line.ensures)

pub returns-then-why : goal.returns-then-why
returns-then-why g c = rw c.if-why.true (puts_next _ _ _ (line_by c.args.side c.args.fault.now) (explained c.args.text.now c.args.fault.now c.args.column) c.explain.result c.in_ok-write_line.ensures c.explain.ensures)
