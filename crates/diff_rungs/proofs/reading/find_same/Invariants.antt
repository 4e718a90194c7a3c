use Rattle.std.proofs.Common.{◌≡◌, ◌<◌, ℕ, Some, slice_get}
use Rattle.diagram_program.specs.declared.gates.Gate.{Gate}
use Rattle.diff_rungs.specs.Reading.{GiveSame}
use Rattle.diff_rungs.proofs.reading.find_same.Given as goal

abbrev pub invariant-loop-n : goal.invariant-loop-n
invariant-loop-n l = (k : ℕ) (x y : Gate) → k < l.n → slice_get l.olds k ≡ Some x → slice_get l.news k ≡ Some y
    → GiveSame l.versions.matching.now l.versions.old.now l.versions.new.now l.marks l.rungs.old l.rungs.new x y
