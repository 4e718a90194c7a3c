-- How a comparison ends, from what each step of it ensures.
use Rattle.std.proofs.Common.{◌⊎◌, refl, subst, Err, None, Ok, Option, Some, inl, inr}
use Rattle.causes_query.specs.Causes.{Question}
use Rattle.io_text.specs.Log.{PutsPrefix, WriteLog}
use Rattle.search_differences.specs.declared.side.Side.{Side}
use Rattle.search_differences.specs.declared.side.Side.TheVariants.{Old, New}
use Rattle.cli_arguments.specs.declared.request.DiffRequest.{DiffRequest}
use Rattle.cli_inputs.specs.Reports.{IsReportedBy, Logs, logs}
use Rattle.cli_inputs.specs.Setting.{Given}
use Rattle.cli_inputs.specs.declared.fault.ToolFault.{ToolFault}
use Rattle.cli_questions.specs.Ending.{BreaksOff, counts_line, unless_quiet}
use Rattle.cli_questions.specs.declared.counting.ListCounts.{ListCounts}
use Rattle.cli_diff.specs.Assumed.{AssumedList, Assumption}
use Rattle.cli_diff.specs.Ending.{RefusesOf, WritesOf}
use Rattle.cli_diff.specs.Faults.{IsRefusedOf, given_of}
use Rattle.cli_diff.specs.declared.sided.SidedFault.{SidedFault}

module _ (g h : Given) (a : Assumption) (r : DiffRequest) (old new : Question) where
  -- A list that was refused, or that broke off.
  pub broken : (e : SidedFault) (save o o' s s' : WriteLog) → WritesOf (AssumedList a r.form r.limit old new) (IsRefusedOf r.form old new) o o' (Err e)
      → IsReportedBy e.side (given_of e.side g h) s s' e.fault
      → RefusesOf g h (IsRefusedOf r.form old new) (logs o save s) (logs o' save s') ⊎ BreaksOff g (AssumedList a r.form r.limit old new) r.quiet (logs o save s) (logs o' save s')
  broken e save o o' s s' (inl w) said =
      inl (record { side = e.side; reason = e.fault; has = w.0; unwritten = w.1; unsaved = refl {a = save}; reported = said })
  broken e save o o' s s' (inr w) said =
      inr (inl (w.1.0, w.1.1, w.1.2, subst (λ (f : SidedFault). IsReportedBy f.side (given_of f.side g h) s s' f.fault) w.0 said))

  -- A list that was written, the line of whose counts broke off.
  pub uncounted : (n : ListCounts) (save o o' s s' : WriteLog) → WritesOf (AssumedList a r.form r.limit old new) (IsRefusedOf r.form old new) o o' (Ok n)
      → PutsPrefix s s' (unless_quiet r.quiet (counts_line n))
      → RefusesOf g h (IsRefusedOf r.form old new) (logs o save s) (logs o' save s') ⊎ BreaksOff g (AssumedList a r.form r.limit old new) r.quiet (logs o save s) (logs o' save s')
  uncounted n save o o' s s' w put = inr (inr (record { text = w.0; counts = n; is = w.1; put = w.2; counted = put }))

-- a refusal for another way to say the same
pub refuses_as : (g h : Given) (P Q : Option Side → ToolFault → Type 0) (s t : Logs) → ((side : Option Side) (f : ToolFault) → P side f → Q side f)
    → RefusesOf g h P s t → RefusesOf g h Q s t
refuses_as g h P Q s t says h' = record {
  side = h'.side;
  reason = h'.reason;
  has = says h'.side h'.reason h'.has;
  unwritten = h'.unwritten;
  unsaved = h'.unsaved;
  reported = h'.reported;
}

-- What is said of a fault is of the one program's texts, where both are the same.
pub same_texts : (side : Option Side) (g : Given) (s s' : WriteLog) (f : ToolFault) → IsReportedBy side g s s' f → IsReportedBy side (given_of side g g) s s' f
same_texts None g s s' f said = said
same_texts (Some Old) g s s' f said = said
same_texts (Some New) g s s' f said = said
