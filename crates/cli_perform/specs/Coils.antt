-- How a request for a list ends that is made of one coil after the other.
use Rattle.std.specs.Prelude.{◌≡◌, ◌⊎◌, ◌++◌, ℕ, List, [], Bool, true, false, codes, String, string_bytes}
use Rattle.std.specs.Global.{Global}
use Rattle.cli_perform.specs.CoilNames.{coil_names, is_quiet, of_coil}
use Rattle.diagram_program.specs.Program.{Drawing}
use Rattle.diagram_reader.specs.Titled.{HasProgram}
use Rattle.io_text.specs.Log.{PutsAll, PutsPrefix, WriteLog}
use Rattle.cli_inputs.specs.Reports.{Logs, logs}
use Rattle.cli_inputs.specs.Setting.{Given}
use Rattle.cli_arguments.specs.declared.request.Request.{Request}
use Rattle.cli_perform.specs.Performs.{IsDone, IsFailed}

-- the names of the coils of the program that the texts describe
abbrev pub HasCoils : Given → List (List ℕ) → Type 0
HasCoils g names = (p : Drawing) × HasProgram g.aliases g.program p × (names ≡ coil_names p)

-- The line before what is said of a coil, where the line of counts isn't left out: `coil NAME`.
abbrev pub coil_head : Bool → List ℕ → List ℕ
coil_head true name = []
coil_head false name = codes "coil " ++ (name ++ codes "\n")

-- Status 0: the line of the coil was written, and then the request was done of it.
abbrev pub IsDoneOf : String Global → Request → Given → Logs → Logs → Type 0
IsDoneOf coil r g old new = (named : WriteLog) × PutsAll old.err named (coil_head (is_quiet r) (string_bytes coil))
    × IsDone (of_coil coil r) g (logs old.out old.save named) new

-- Status 1: the line of the coil was not written whole, and nothing else; or it was, and then the request failed.
abbrev pub IsFailedOf : String Global → Request → Given → Logs → Logs → Type 0
IsFailedOf coil r g old new =
    (PutsPrefix old.err new.err (coil_head (is_quiet r) (string_bytes coil)) × (new.out ≡ old.out) × (new.save ≡ old.save))
    ⊎ ((named : WriteLog) × PutsAll old.err named (coil_head (is_quiet r) (string_bytes coil))
    × IsFailed (of_coil coil r) g (logs old.out old.save named) new)
