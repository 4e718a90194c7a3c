use Rattle.std.proofs.Common.{◌≡◌, take, map}
use Rattle.diff_cases.specs.Traces.{unstepped}
use Rattle.diff_cases.proofs.tracing.begin.Given as goal

abbrev pub invariant-loop-inst : goal.invariant-loop-inst
invariant-loop-inst l = take l.inst l.traced ≡ map unstepped (take l.inst l.blocks)
