use Rattle.std.proofs.Common.{take}
use Rattle.diff_rungs.specs.Marks.{StayAsMany}
use Rattle.diff_rungs.specs.Writing.{KeepSame}
use Rattle.diff_rungs.proofs.writing.write_each.Given as goal

abbrev pub invariant-loop-n : goal.invariant-loop-n
invariant-loop-n l = record {
  same : KeepSame l.versions.matching.now l.versions.old.now l.versions.new.now l.start (take l.n l.olds) (take l.n l.news) l.fn.marks l.marks;
  many : StayAsMany l.fn.marks l.marks;
}
