-- The reading of a text: how long it may be, and why it can't be read.
use Rattle.std.specs.Prelude.{◌≡◌, ◌<◌, ◌≤◌, ℕ, List, Option, None, Some, IfSome, length}
use Rattle.io_text.specs.Calls.{LastFails}
use Rattle.io_text.specs.Log.{ReadLog}
use Rattle.io_text.specs.declared.fault.ReadFault.{ReadFault}
use Rattle.io_text.specs.declared.fault.ReadFault.TheVariants as read
use Rattle.cli_inputs.specs.declared.fault.TextKind.{TextKind}
use Rattle.cli_inputs.specs.declared.fault.TextKind.TheVariants as kind
use Rattle.cli_inputs.specs.declared.reading.TheConstants.{TEXT_LIMIT, STIMULUS_LIMIT}

-- the largest text of a kind, in bytes
abbrev pub largest : TextKind → ℕ
largest kind.Stimulus = STIMULUS_LIMIT
largest kind.Trace = STIMULUS_LIMIT
largest other = TEXT_LIMIT

-- This is all that the reader had, and no more than is allowed.
abbrev pub IsWhole : TextKind → ReadLog → List ℕ → Type 0
IsWhole k log text = IfSome log.remaining (λ all. text ≡ all) × (length text ≤ largest k)

-- Where the request names a text, it is such a one.
abbrev pub AreWhole : TextKind → Option ReadLog → Option (List ℕ) → Type 0
AreWhole k None text = text ≡ None
AreWhole k (Some log) text = (t : List ℕ) × (text ≡ Some t) × IsWhole k log t

-- Why a text could not be read: the last call of its reader failed, more came than is allowed, or being out of memory.
abbrev pub IsUnread : TextKind → ReadLog → ReadLog → ReadFault → Type 0
IsUnread k old new read.Read = LastFails old.tally new.tally
IsUnread k old new read.TooLong = IfSome old.remaining (λ all. largest k < length all)
IsUnread k old new read.Memory = Unit {0}

abbrev pub AreUnread : TextKind → Option ReadLog → Option ReadLog → ReadFault → Type 0
AreUnread k (Some old) (Some new) f = IsUnread k old new f
AreUnread k old new f = ⊥
