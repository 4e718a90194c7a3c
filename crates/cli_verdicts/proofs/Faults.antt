-- What stops the judging of two programs before it begins.
use Rattle.std.proofs.Common.{inl}
use Rattle.cli_arguments.specs.declared.request.VerdictRequest.{VerdictRequest}
use Rattle.cli_inputs.specs.Reports.{Logs}
use Rattle.cli_inputs.specs.Setting.{Given}
use Rattle.cli_diff.specs.Ending.{RefusesOf}
use Rattle.cli_verdicts.specs.Ending.{HasTextFault, HasVerdictFault}

-- A fault of the texts does.
pub text_refused : (g h : Given) (r : VerdictRequest) (s t : Logs) → RefusesOf g h (HasTextFault g h) s t → RefusesOf g h (HasVerdictFault g h r) s t
text_refused g h r s t refused = record {
  side = refused.side;
  reason = refused.reason;
  has = inl refused.has;
  unwritten = refused.unwritten;
  unsaved = refused.unsaved;
  reported = refused.reported;
}
