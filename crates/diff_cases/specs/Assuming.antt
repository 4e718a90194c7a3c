-- What is assumed of the inputs of both programs where cases are made: states count in which it is true.
use Rattle.std.specs.Prelude.{◌≡◌, ◌⊎◌, false}
use Rattle.scan_signals.specs.Three.{three_known}
use Rattle.scan_signals.specs.declared.tri.Tri.{Tri}
use Rattle.scan_cycle.specs.Rung.{Held}
use Rattle.scan_symbolic.specs.KnownScan.{Known}
use Rattle.invariant_cases.specs.Assuming.{Assumed, IsTrueIn, assumed_of, nothing, truth_told}
use Rattle.invariant_cases.specs.declared.outcome.Outcome.{Outcome}
use Rattle.diff_cases.specs.declared.assumptions.Assumptions.{Assumptions}

-- what is assumed of the inputs of each
pub record BothAssumed : Type 0 where
  pub of_old : Assumed
  pub of_new : Assumed

abbrev pub nothing_of_both : BothAssumed
nothing_of_both = record { of_old = nothing; of_new = nothing }

abbrev pub assumed_of_both : Assumptions → BothAssumed
assumed_of_both a = record { of_old = assumed_of a.of_old; of_new = assumed_of a.of_new }

-- It is true in a state of each.
abbrev pub AreTrueIn : BothAssumed → Held → Held → Type 0
AreTrueIn a h g = IsTrueIn a.of_old h × IsTrueIn a.of_new g

-- What is known tells that it is false in one of them.
abbrev pub IsToldFalse : BothAssumed → Known Tri Outcome → Known Tri Outcome → Type 0
IsToldFalse a k l = (truth_told a.of_old k ≡ three_known false) ⊎ (truth_told a.of_new l ≡ three_known false)
