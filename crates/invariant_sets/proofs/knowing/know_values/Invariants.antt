use Rattle.std.proofs.Common.{◌≡◌, length, take}
use Rattle.invariant_sets.proofs.knowing.know_values.Given as goal

abbrev pub invariant-loop-var : goal.invariant-loop-var
invariant-loop-var l = record {
  known : l.known ≡ record l.fn.known { values = l.known.values };
  many : length l.known.values ≡ length l.variables;
  done : take l.var l.known.values ≡ take l.var l.variables;
}
