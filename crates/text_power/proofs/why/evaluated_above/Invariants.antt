use Rattle.std.specs.Prelude.{◌≡◌, ◌≤◌}
use Rattle.text_power.specs.Why.{evaluated_above}
use Rattle.text_power.proofs.why.evaluated_above.Given as goal

abbrev pub invariant-loop-above : goal.invariant-loop-above
invariant-loop-above l = record {
  value : l.last ≡ evaluated_above l.marks l.above;
  few : l.last ≤ l.above;
}
