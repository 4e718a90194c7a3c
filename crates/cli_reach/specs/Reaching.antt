-- How a request for a run ends.
use Rattle.std.specs.Prelude.{◌≡◌, ◌⊎◌, ◌++◌, ℕ, true, List, None, length}
use Rattle.io_text.specs.Log.{PutsAll, PutsPrefix, WriteLog}
use Rattle.reach_runs.specs.Asking.{RunQuestion}
use Rattle.cli_arguments.specs.declared.request.ReachRequest.{ReachRequest}
use Rattle.cli_inputs.specs.Reports.{IsReported, Logs}
use Rattle.cli_inputs.specs.Setting.{Given}
use Rattle.cli_inputs.specs.declared.fault.ToolFault.{ToolFault}
use Rattle.cli_inputs.specs.declared.fault.ToolFault.TheVariants as fault
use Rattle.cli_reach.specs.Asking.{IsAskedBy, most_of, refusal}
use Rattle.cli_reach.specs.Finding.{IsFound, found_line}
use Rattle.cli_reach.specs.Telling.{TellsSteps}
use Rattle.cli_reach.specs.declared.finding.Found.{Found}

-- This is asked, and nothing is against it.
pub record IsRight (g : Given) (r : ReachRequest) (q : RunQuestion) : Type 0 where
  pub asked : IsAskedBy g r q
  pub right : refusal q ≡ None

-- Something is found of what is asked, and its text is written, whole or as far as `Written` says.
pub record WritesFound (r : ReachRequest) (q : RunQuestion) (found : Found) (Written : List ℕ → Type 0) : Type 0 where
  pub text : List ℕ
  pub is : IsFound q (most_of r.pace) found text
  pub written : Written text

-- Lines tell how far the search is, where that is asked for; the text of what is found is written; and then its line is: whole, or as far as
-- `Told` says. It tells how many states were kept, and how many expressions were assumed.
pub record TellsFound (g : Given) (r : ReachRequest) (out out' : WriteLog) (Told : List ℕ → Type 0) : Type 0 where
  pub question : RunQuestion
  pub right : IsRight g r question
  pub found : Found
  pub states : ℕ
  pub writes : WritesFound r question found (PutsAll out out')
  pub told : TellsSteps r.progress question (λ lines. Told (lines ++ found_line found states (length r.assumed.items)))

-- Lines tell how far the search is, where that is asked for, and then what is said of a fault is written.
pub record TellsFault (g : Given) (r : ReachRequest) (q : RunQuestion) (err err' : WriteLog) (f : ToolFault) : Type 0 where
  pub between : WriteLog
  pub told : TellsSteps r.progress q (PutsAll err between)
  pub reported : IsReported g between err' f

-- Status 1 after what is asked was found to be right: `err` failed at a line of the search, the search was out of memory, or `out` failed at the
-- text of what was found.
abbrev pub BreaksSearch : Given → ReachRequest → RunQuestion → Logs → Logs → Type 0
BreaksSearch g r q old new =
    ((r.progress ≡ true) × TellsSteps r.progress q (PutsPrefix old.err new.err) × (new.out ≡ old.out))
    ⊎ (TellsFault g r q old.err new.err fault.Memory × (new.out ≡ old.out))
    ⊎ (((found : Found) × WritesFound r q found (PutsPrefix old.out new.out)) × TellsFault g r q old.err new.err fault.Write)

-- Status 1: it breaks off so, or `err` failed at the last line.
abbrev pub BreaksReach : Given → ReachRequest → Logs → Logs → Type 0
BreaksReach g r old new =
    ((question : RunQuestion) × IsRight g r question × BreaksSearch g r question old new)
    ⊎ TellsFound g r old.out new.out (PutsPrefix old.err new.err)
