-- How a request for a trace beside the one that is expected ends: the same records, a first difference, or a fault.
use Rattle.std.specs.Prelude.{◌≡◌, ◌⊎◌, ℕ, List, [], Bool, true, false, Some, Result, Ok, Err, is_some}
use Rattle.diagram_program.specs.Program.{Drawing}
use Rattle.scan_cycle.specs.Standing.{Standing}
use Rattle.io_text.specs.Log.{PutsPrefix, WriteLog}
use Rattle.io_text.specs.Text.{records_of}
use Rattle.text_state.specs.StateText.{state_text}
use Rattle.text_trace.specs.declared.fault.SimFault.TheVariants as sim
use Rattle.text_trace.specs.declared.fault.WatchFault.{WatchFault}
use Rattle.text_trace.specs.declared.fault.WatchFault.TheVariants as watch
use Rattle.text_expected.specs.Expected.{Compares}
use Rattle.text_expected.specs.declared.fault.ExpectFault.{ExpectFault}
use Rattle.text_expected.specs.declared.fault.ExpectFault.TheVariants as expect
use Rattle.cli_inputs.specs.declared.fault.ToolFault.{ToolFault}
use Rattle.cli_inputs.specs.declared.fault.ToolFault.TheVariants as fault
use Rattle.cli_inputs.specs.Setting.{Given, expected_records}
use Rattle.cli_inputs.specs.Reports.{IsReported, Logs}
use Rattle.cli_arguments.specs.declared.request.ExpectRequest.{ExpectRequest}
use Rattle.cli_arguments.specs.declared.request.WatchRequest.{WatchRequest}
use Rattle.cli_views.specs.Views.{IsSaved, Watches}

-- The trace of the whole stimulus is this text: a writer that had nothing has it then.
pub record Yields (g : Given) (r : WatchRequest) (text : List ℕ) (err err' : WriteLog) (Saved : Drawing → Standing → Type 0) : Type 0 where
  pub scans : ℕ
  pub blank : WriteLog
  pub full : WriteLog
  pub nothing : blank.contents ≡ Some []
  pub whole : full.contents ≡ Some text
  pub watched : Watches g r blank full err err' (Ok scans) Saved

-- So it is, and this came of comparing its records with those that are expected.
abbrev pub Expects : Given → ExpectRequest → Result Bool ExpectFault → Logs → Logs → WriteLog → (Drawing → Standing → Type 0) → Type 0
Expects g r compared old new told Saved =
    (text : List ℕ) × Yields g r.watch text old.err told Saved × Compares (expected_records g) (records_of text) old.out new.out compared

-- Status 0: the trace has the records that are expected.
abbrev pub IsExpected : Given → ExpectRequest → Logs → Logs → Type 0
IsExpected g r old new = Expects g r (Ok true) old new new.err (IsSaved (is_some r.watch.sim.save) old.save new.save)

-- The trace is kept in memory, so a fault of its writer is that of memory.
abbrev pub kept_fault : WatchFault → ToolFault
kept_fault (watch.Sim sim.Write) = fault.Memory
kept_fault (watch.Sim other) = fault.Sim other
kept_fault watch.Lines = fault.Write

abbrev pub unsaid : ExpectFault → ToolFault
unsaid expect.Write = fault.Write
unsaid expect.Memory = fault.Memory

-- Status 1, and no state was saved: a fault stopped the simulation; or the trace has not the records that are expected, and the first difference
-- was written; or a fault came while it was looked for and written. Or the trace has these records, the state was to be saved, and `save` failed.
abbrev pub BreaksExpected : Given → ExpectRequest → Logs → Logs → Type 0
BreaksExpected g r old new =
    ((f : WatchFault) × (told blank cut : WriteLog) × Watches g r.watch blank cut old.err told (Err f) (λ p s. new.save ≡ old.save) × (new.out ≡ old.out)
    × IsReported g told new.err (kept_fault f))
    ⊎ (Expects g r (Ok false) old new new.err (λ p s. new.save ≡ old.save)
    ⊎ (((f : ExpectFault) × (told : WriteLog) × Expects g r (Err f) old new told (λ p s. new.save ≡ old.save) × IsReported g told new.err (unsaid f))
    ⊎ ((told : WriteLog) × (is_some r.watch.sim.save ≡ true) × Expects g r (Ok true) old new told (λ p s. PutsPrefix old.save new.save (state_text p s))
    × IsReported g told new.err fault.Write)))
