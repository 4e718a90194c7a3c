-- What stays so in a program, and the states in which it is so.
use Rattle.std.specs.Prelude.{All}
use Rattle.diagram_program.specs.Program.{Drawing}
use Rattle.scan_cycle.specs.Rung.{Held}
use Rattle.invariant_cases.specs.Allowing.{AreApart}
use Rattle.invariant_sets.specs.Never.{IsSetOf, IsSo}
use Rattle.invariant_sets.specs.Pairs.{IsPairOutside}
use Rattle.invariant_sets.specs.declared.staying.Staying.{Staying}

-- It is so in a state what stays so: all that the set claims is so, and of no pair both are ON.
pub record StaysSo (staying : Staying) (h : Held) : Type 0 where
  pub so : IsSo staying.steady h
  pub apart : AreApart staying.apart h

-- What stays so is said of the program's own variables and instances, and of no input.
pub record IsStayingOf (p : Drawing) (staying : Staying) : Type 0 where
  pub set : IsSetOf p staying.steady
  pub apart : All (IsPairOutside p staying.steady) staying.apart
