use Rattle.std.proofs.Common.{◌≡◌, ◌<◌, ◌≤◌, ℕ, false}
use Rattle.scan_cycle.specs.Programs.{diagram_of}
use Rattle.scan_symbolic.specs.KnownScan.{kept_at}
use Rattle.reach_states.specs.Allowing.{is_waiting}
use Rattle.reach_states.specs.Untimed.{untimed}
use Rattle.reach_states.proofs.passing.next_waiting.Given as goal

abbrev pub invariant-loop-inst : goal.invariant-loop-inst
invariant-loop-inst l = (i : ℕ) → l.from ≤ i → i < l.inst → is_waiting ((diagram_of l.program).preset i) (kept_at untimed l.known i) ≡ false
