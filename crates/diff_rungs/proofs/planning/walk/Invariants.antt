use Rattle.diff_rungs.specs.Marks.{StayAsMany}
use Rattle.diff_rungs.specs.Walking.{IsWithin, Reached}
use Rattle.diff_rungs.proofs.planning.walk.Given as goal

abbrev pub invariant-loop : goal.invariant-loop
invariant-loop l = record {
  within : IsWithin l.versions.old.now l.versions.new.now l.place;
  reached : Reached l.versions.matching.now l.versions.old.now l.versions.new.now l.place l.leaps.items l.marks;
  many : StayAsMany l.fn.marks l.marks;
}
