-- The files of a comparison: in which order they are read, and which fault comes where.
use Rattle.std.specs.Prelude.{◌≡◌, List, ℕ, Option, Some}
use Rattle.io_text.specs.Log.{ReadLog}
use Rattle.search_differences.specs.declared.side.Side.{Side}
use Rattle.search_differences.specs.declared.side.Side.TheVariants.{Old, New}
use Rattle.cli_arguments.specs.declared.request.DiffRequest.{DiffRequest}
use Rattle.cli_inputs.specs.declared.fault.TextKind.TheVariants as kind
use Rattle.cli_inputs.specs.declared.fault.ToolFault.{ToolFault}
use Rattle.cli_inputs.specs.declared.fault.ToolFault.TheVariants as fault
use Rattle.cli_inputs.specs.Reading.{AreUnread, AreWhole, IsUnread, IsWhole}
use Rattle.cli_inputs.specs.Setting.{Given}

-- the readers of both programs, and of their states where the request names them
pub record DiffFiles : Type 0 where
  pub old : ReadLog
  pub new : ReadLog
  pub state : Option ReadLog
  pub new_state : Option ReadLog

abbrev pub diff_files : ReadLog → ReadLog → Option ReadLog → Option ReadLog → DiffFiles
diff_files old new state new_state = record { old = old; new = new; state = state; new_state = new_state }

-- All texts were read.
pub record AreBothRead (files : DiffFiles) (g h : Given) : Type 0 where
  pub old : IsWhole kind.Program files.old g.program
  pub new : IsWhole kind.Program files.new h.program
  pub state : AreWhole kind.State files.state g.state
  pub new_state : AreWhole kind.State files.new_state h.state

-- The old program is read first, then the new one, the state of the old one and that of the new one, up to the first that can't be read: no
-- call was made of those after it.
abbrev pub StopsAtOne : DiffFiles → DiffFiles → Option Side → ToolFault → Type 0
StopsAtOne old new (Some Old) (fault.Read kind.Program f) =
    IsUnread kind.Program old.old new.old f × (new.new ≡ old.new) × (new.state ≡ old.state) × (new.new_state ≡ old.new_state)
StopsAtOne old new (Some New) (fault.Read kind.Program f) =
    (text : List ℕ) × IsWhole kind.Program old.old text × IsUnread kind.Program old.new new.new f × (new.state ≡ old.state) × (new.new_state ≡ old.new_state)
StopsAtOne old new (Some Old) (fault.Read kind.State f) =
    (text other : List ℕ) × IsWhole kind.Program old.old text × IsWhole kind.Program old.new other
    × AreUnread kind.State old.state new.state f × (new.new_state ≡ old.new_state)
StopsAtOne old new (Some New) (fault.Read kind.State f) =
    (text other : List ℕ) × (state : Option (List ℕ)) × IsWhole kind.Program old.old text × IsWhole kind.Program old.new other
    × AreWhole kind.State old.state state × AreUnread kind.State old.new_state new.new_state f
StopsAtOne old new side other = ⊥

-- Whether faults are explained, and aliases printed, is said by the request.
abbrev pub IsSaidOf : Given → DiffRequest → Type 0
IsSaidOf g r = (g.why ≡ r.why) × (g.aliases ≡ r.aliases)
