-- How a request ends that failed, with what is said of its names.
use Rattle.std.specs.Prelude.{◌≡◌, Bool, true, false, Result}
use Rattle.cli_arguments.specs.declared.request.Request.{Request}
use Rattle.cli_inputs.specs.Reports.{Logs}
use Rattle.cli_inputs.specs.Setting.{Given}
use Rattle.cli_names.specs.Advice.{Advises}
use Rattle.cli_names.specs.declared.fault.AdviceFault.{AdviceFault}
use Rattle.cli_perform.specs.Performs.{IsFailed}

-- Where a fault is explained, the advice follows on `err`; otherwise nothing does.
abbrev pub IsAdvised : Bool → Request → Given → Logs → Logs → Type 0
IsAdvised true r g old new = (new.out ≡ old.out) × (new.save ≡ old.save) × ((told : Result Bool AdviceFault) × Advises g r old.err new.err told)
IsAdvised false r g old new = new ≡ old

-- The request failed, and what is said of its names came after that.
abbrev pub FailsAdvised : Request → Given → Logs → Logs → Type 0
FailsAdvised r g old new = (between : Logs) × IsFailed r g old between × IsAdvised g.why r g between new
