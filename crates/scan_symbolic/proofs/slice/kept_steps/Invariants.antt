use Rattle.std.proofs.Common.{◌≡◌, ◌-◌, drop, length, reverse}
use Rattle.scan_symbolic.specs.Slicing.{kept_of, needs_before}
use Rattle.scan_symbolic.proofs.slice.kept_steps.Given as goal

abbrev pub invariant-loop-after : goal.invariant-loop-after
invariant-loop-after l = record {
  kept : reverse l.kept.items ≡ kept_of l.program (drop (length l.steps - l.after) l.steps) l.fn.marks;
  marks : l.marks ≡ needs_before l.program (drop (length l.steps - l.after) l.steps) l.fn.marks;
}
