-- What two programs leave alike for ever, which one scan of each tells.
use Rattle.std.specs.Prelude.{Contains, List, Option, None, Some}
use Rattle.std.specs.List.{All}
use Rattle.diagram_program.specs.Program.{Drawing}
use Rattle.diff_matching.specs.declared.matching.Pair.{Pair}
use Rattle.diff_matching.specs.Matching.{Matching}
use Rattle.diff_runs.specs.Beside.{AgreeFromFresh}

-- A pair is one of these.
pub record IsOneOf (pairs : List Pair) (x : Pair) : Type 0 where
  pub among : Contains pairs x

-- What is in these pairs is alike after each scan of all runs from the fresh states, in which inputs that belong together by them are given the same
-- values; and these do by the matching.
pub record StayAlike (alike m : Matching) (p q : Drawing) : Type 0 where
  pub agree : AgreeFromFresh alike p q
  pub inputs : All (IsOneOf m.inputs) alike.inputs

-- The same, where there are some.
abbrev pub StayAlikeIn : Matching → Drawing → Drawing → Option Matching → Type 0
StayAlikeIn m p q (Some alike) = StayAlike alike m p q
StayAlikeIn m p q None = Unit {0}
