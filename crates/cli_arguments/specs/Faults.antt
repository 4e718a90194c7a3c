-- What a fault says of the arguments.
use Rattle.std.specs.Prelude.{◌≡◌, ◌⊎◌, ⊤, List, [], Option, Some, IfSome, false, string_bytes}
use Rattle.clap.specs.Words.{App, IsAmong, Kinds, Row, Text, fault_of, subcommand_of}
use Rattle.clap.specs.declared.error.kind.ErrorKind.{ErrorKind}
use Rattle.clap.specs.declared.error.kind.ErrorKind.TheVariants.{DisplayHelp, DisplayVersion, OutOfMemory}
use Rattle.cli_options.specs.Pages.{is_fault_code}
use Rattle.cli_usage.specs.Rules.{Breaks}
use Rattle.cli_arguments.specs.Asking.{AsksNothing, HasNoTask}
use Rattle.cli_arguments.specs.declared.request.WordFault.{WordFault}
use Rattle.cli_arguments.specs.declared.request.WordFault.TheVariants.{Broken, Help, Memory, Mistake, NoCode, Usage}

-- A usage fault comes only where this holds, with the word that is no code or without. Memory may run out anywhere; help is no answer, and what
-- `clap` says neither, and the rule that is broken is looked for later.
abbrev pub UsageWhere : Type 0 → WordFault → Type 0
UsageWhere P Usage = P
UsageWhere P (Broken b) = ⊥
UsageWhere P (NoCode word) = P × (is_fault_code (string_bytes word) ≡ false)
UsageWhere P (Mistake text) = ⊥
UsageWhere P (Help text) = ⊥
UsageWhere P Memory = ⊤

-- Help is asked for, or the version.
abbrev pub IsAnswered : ErrorKind → Type 0
IsAnswered kind = (kind ≡ DisplayHelp) ⊎ (kind ≡ DisplayVersion)

-- what is said of an error of `clap`: help needs memory for its text
abbrev pub SaysOf : ErrorKind → WordFault → Type 0
SaysOf kind Usage = (IsAnswered kind → ⊥) × (kind ≡ OutOfMemory → ⊥)
SaysOf kind (Mistake text) = (IsAnswered kind → ⊥) × (kind ≡ OutOfMemory → ⊥)
SaysOf kind (Broken b) = ⊥
SaysOf kind (NoCode word) = ⊥
SaysOf kind (Help text) = IsAnswered kind
SaysOf kind Memory = (kind ≡ OutOfMemory) ⊎ IsAnswered kind

-- one of the faults is not that help or the version is asked for
abbrev pub HasOther : Kinds → Type 0
HasOther kinds = (kind : ErrorKind) × IsAmong kind kinds × (IsAnswered kind → ⊥)

-- help or the version is asked for
abbrev pub HasAnswer : Kinds → Type 0
HasAnswer kinds = (kind : ErrorKind) × IsAmong kind kinds × IsAnswered kind

-- A rule that is told is broken by the values of the subcommand.
abbrev pub TellsUsage : Option (Text × List Row) → WordFault → Type 0
TellsUsage found Usage = ⊤
TellsUsage found (Broken b) = (p : Text × List Row) × (found ≡ Some p) × Breaks p.1 b
TellsUsage found other = ⊥

-- The values of the subcommand ask for nothing, and where a rule is told, they break it.
abbrev pub IsTold : Option (Text × List Row) → WordFault → Type 0
IsTold found e = UsageWhere (IfSome found (λ p. HasNoTask p.0 p.1)) e ⊎ (IfSome found (λ p. HasNoTask p.0 p.1) × TellsUsage found e)

-- Why the arguments ask for nothing. Mistake: `clap` finds a fault other than that help or the version is asked for. Usage: so it does, or it finds none and
-- they ask for nothing. Broken, NoCode: it finds none, they ask for nothing, and this rule is broken, or this word is the code of no fault.
-- Help: `clap` finds that it is asked for. Memory may run out anywhere.
abbrev pub IsFaultOf : App → List Text → WordFault → Type 0
IsFaultOf app words Usage = HasOther (fault_of app words) ⊎ ((fault_of app words ≡ []) × AsksNothing app words)
IsFaultOf app words (Broken b) = (fault_of app words ≡ []) × AsksNothing app words × TellsUsage (subcommand_of app words) (Broken b)
IsFaultOf app words (NoCode word) = (fault_of app words ≡ []) × AsksNothing app words × (is_fault_code (string_bytes word) ≡ false)
IsFaultOf app words (Mistake text) = HasOther (fault_of app words)
IsFaultOf app words (Help text) = HasAnswer (fault_of app words)
IsFaultOf app words Memory = ⊤
