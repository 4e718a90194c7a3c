-- The standard function blocks (IEC 61131-3:2013, 6.6.3.5), and all that depends on the kind of a block.
use Rattle.std.specs.Prelude.{ℕ, List, codes, Option, Some, None}
use Rattle.diagram_declarations.specs.declared.limits.TheConstants.{LONGEST_INSTANCE, LONGEST_BISTABLE, LARGEST_COUNT}
use Rattle.diagram_declarations.specs.declared.time.TheConstants.{LARGEST_TIME}
use Rattle.diagram_declarations.specs.declared.kind.BlockKind.{BlockKind}
use Rattle.diagram_declarations.specs.declared.kind.BlockKind.TheVariants as kind
use Rattle.diagram_declarations.specs.declared.kind.Parameter.{Parameter}
use Rattle.diagram_declarations.specs.declared.kind.Parameter.TheVariants as parameter
use Rattle.diagram_declarations.specs.declared.kind.Pin.{Pin}
use Rattle.diagram_declarations.specs.declared.kind.Pin.TheVariants as pin
use Rattle.diagram_declarations.specs.declared.kind.Output.{Output}
use Rattle.diagram_declarations.specs.declared.kind.Output.TheVariants as output

-- The word of the type, the parameter that may be preset, how long the name of an instance may be (the profile: with the
-- output after it, it has to fit over a contact), the second input, and the output that a contact can read.
pub record Traits : Type 0 where
  pub word : List ℕ
  pub parameter : Option Parameter
  pub longest_name : ℕ
  pub second_input : Option Pin
  pub output : Output

abbrev pub traits_of : BlockKind → Traits
traits_of kind.Ton = record { word = codes "TON"; parameter = Some parameter.Time; longest_name = LONGEST_INSTANCE; second_input = None; output = output.Q }
traits_of kind.Tof = record { word = codes "TOF"; parameter = Some parameter.Time; longest_name = LONGEST_INSTANCE; second_input = None; output = output.Q }
traits_of kind.Tp = record { word = codes "TP"; parameter = Some parameter.Time; longest_name = LONGEST_INSTANCE; second_input = None; output = output.Q }
traits_of kind.Ctu = record { word = codes "CTU"; parameter = Some parameter.Count; longest_name = LONGEST_INSTANCE; second_input = Some pin.Reset; output = output.Q }
traits_of kind.Ctd = record { word = codes "CTD"; parameter = Some parameter.Count; longest_name = LONGEST_INSTANCE; second_input = Some pin.Load; output = output.Q }
traits_of kind.Sr = record { word = codes "SR"; parameter = None; longest_name = LONGEST_BISTABLE; second_input = Some pin.Reset; output = output.Q1 }
traits_of kind.Rs = record { word = codes "RS"; parameter = None; longest_name = LONGEST_BISTABLE; second_input = Some pin.Reset1; output = output.Q1 }

abbrev pub parameter_word : Parameter → List ℕ
parameter_word parameter.Time = codes "PT"
parameter_word parameter.Count = codes "PV"

-- The largest value of a parameter (the profile): a duration in milliseconds is below 2 ^ 32, a PV at most 32767.
abbrev pub largest_value : Parameter → ℕ
largest_value parameter.Time = LARGEST_TIME
largest_value parameter.Count = LARGEST_COUNT

-- The largest preset of a block; one that has no parameter has the preset 0.
abbrev pub largest_of : Option Parameter → ℕ
largest_of (Some p) = largest_value p
largest_of None = 0

abbrev pub largest_preset : BlockKind → ℕ
largest_preset k = largest_of (traits_of k).parameter
