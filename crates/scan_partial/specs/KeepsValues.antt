-- What is kept of instances stays sound: Qs are values of the signal.
use Rattle.std.specs.Prelude.{ℕ}
use Rattle.diagram_declarations.specs.declared.kind.BlockKind.{BlockKind}
use Rattle.scan_signals.specs.declared.block.Stored.{Stored}
use Rattle.scan_signals.specs.Truth.{AnyBool}
use Rattle.scan_symbolic.specs.KnownScan.{Keeping, plainly}

-- Where V are the values of a signal and K what a program keeps of an instance (a type may hold more): what is kept of a stored block,
-- after a step with values, and by a choice, is in K; and the Q of what is in K is a value.
pub record KeepsValues {S B : Type 0} (V : S → Type 0) (K : B → Type 0) (w : Keeping S B) : Type 0 where
  pub stored : (s : Stored) → K (w.stored s)
  pub q : (b : B) → K b → V (w.q b)
  pub step : (kind : BlockKind) (preset : ℕ) (b : B) (x y : S) (now : ℕ) → K b → V x → V y → K (w.step kind preset b x y now)
  pub choice : (guard : S) (b c : B) → V guard → K b → K c → K (w.choice guard b c)

-- over truth values
abbrev pub AnyStored : Stored → Type 0
AnyStored s = Unit {0}

pub plainly_keeps : KeepsValues AnyBool AnyStored plainly
plainly_keeps = record { stored = λ s. tt; q = λ b k. tt; step = λ kind preset b x y now k v w. tt; choice = λ guard b c v k l. tt }
