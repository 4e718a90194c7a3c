-- The files of a request: in which order they are read, and which fault comes where.
use Rattle.std.specs.Prelude.{◌≡◌, List, ℕ, Option}
use Rattle.io_text.specs.Log.{ReadLog}
use Rattle.cli_inputs.specs.declared.fault.TextKind.TheVariants as kind
use Rattle.cli_inputs.specs.declared.fault.ToolFault.{ToolFault}
use Rattle.cli_inputs.specs.declared.fault.ToolFault.TheVariants as fault
use Rattle.cli_inputs.specs.Reading.{AreUnread, AreWhole, IsUnread, IsWhole}
use Rattle.cli_inputs.specs.Setting.{Given}

-- the readers of a program, and of a state, a stimulus, an expected trace and a HAL file where the request names them
pub record Files : Type 0 where
  pub program : ReadLog
  pub state : Option ReadLog
  pub stimulus : Option ReadLog
  pub trace : Option ReadLog
  pub hal : Option ReadLog

abbrev pub files : ReadLog → Option ReadLog → Option ReadLog → Option ReadLog → Option ReadLog → Files
files program state stimulus trace hal = record { program = program; state = state; stimulus = stimulus; trace = trace; hal = hal }

-- All texts were read, that of a HAL file too.
abbrev pub AreRead : Files → Given → Type 0
AreRead files g = IsWhole kind.Program files.program g.program × AreWhole kind.State files.state g.state × AreWhole kind.Stimulus files.stimulus g.stimulus
    × AreWhole kind.Trace files.trace g.trace × ((hal : Option (List ℕ)) × AreWhole kind.Hal files.hal hal)

-- The program is read first, then the state, the stimulus, the trace and the HAL file, up to the first that can't be read: no call was made of
-- those after it.
abbrev pub StopsAt : Files → Files → ToolFault → Type 0
StopsAt old new (fault.Read kind.Program f) =
    IsUnread kind.Program old.program new.program f × (new.state ≡ old.state) × (new.stimulus ≡ old.stimulus) × (new.trace ≡ old.trace) × (new.hal ≡ old.hal)
StopsAt old new (fault.Read kind.State f) =
    (text : List ℕ) × IsWhole kind.Program old.program text × AreUnread kind.State old.state new.state f × (new.stimulus ≡ old.stimulus)
    × (new.trace ≡ old.trace) × (new.hal ≡ old.hal)
StopsAt old new (fault.Read kind.Stimulus f) =
    (text : List ℕ) × (state : Option (List ℕ)) × IsWhole kind.Program old.program text × AreWhole kind.State old.state state
    × AreUnread kind.Stimulus old.stimulus new.stimulus f × (new.trace ≡ old.trace) × (new.hal ≡ old.hal)
StopsAt old new (fault.Read kind.Trace f) =
    (text : List ℕ) × (state : Option (List ℕ)) × (stimulus : Option (List ℕ)) × IsWhole kind.Program old.program text
    × AreWhole kind.State old.state state × AreWhole kind.Stimulus old.stimulus stimulus × AreUnread kind.Trace old.trace new.trace f × (new.hal ≡ old.hal)
StopsAt old new (fault.Read kind.Hal f) =
    (text : List ℕ) × (state : Option (List ℕ)) × (stimulus : Option (List ℕ)) × (trace : Option (List ℕ)) × IsWhole kind.Program old.program text
    × AreWhole kind.State old.state state × AreWhole kind.Stimulus old.stimulus stimulus × AreWhole kind.Trace old.trace trace
    × AreUnread kind.Hal old.hal new.hal f
StopsAt old new other = ⊥
