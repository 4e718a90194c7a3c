use Rattle.std.proofs.Common.{◌≡◌, ◌≤◌, ◌^◌, min, drop}
use Rattle.diagram_declarations.specs.Duration.{number_of}
use Rattle.diagram_declarations.specs.ReadTimes.{value_from}
use Rattle.diagram_declarations.proofs.digits.number.Given as goal

abbrev pub invariant-loop-digit : goal.invariant-loop-digit
invariant-loop-digit l = record {
  small : l.n ≤ 2 ^ 32;
  same : min (value_from l.n (drop l.digit-index l.digits)) (2 ^ 32) ≡ min (number_of l.digits) (2 ^ 32);
}
