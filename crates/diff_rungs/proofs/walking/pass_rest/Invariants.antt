use Rattle.std.proofs.Common.{◌≡◌}
use Rattle.diff_rungs.specs.Marks.{StayAsMany}
use Rattle.diff_rungs.specs.Walking.{IsWithin, Reached}
use Rattle.diff_rungs.proofs.walking.pass_rest.Given as goal

abbrev pub invariant-loop-old : goal.invariant-loop-old
invariant-loop-old l = record {
  here : l.at.old_rung ≡ l.old;
  within : IsWithin l.versions.old.now l.versions.new.now l.at;
  reached : Reached l.versions.matching.now l.versions.old.now l.versions.new.now l.at l.leaps.items l.marks;
  many : StayAsMany l.fn.marks l.marks;
}

abbrev pub invariant-loop-new : goal.invariant-loop-new
invariant-loop-new l = record {
  end : l.at.old_rung ≡ l.versions.old.now.rungs;
  here : l.at.new_rung ≡ l.new;
  within : IsWithin l.versions.old.now l.versions.new.now l.at;
  reached : Reached l.versions.matching.now l.versions.old.now l.versions.new.now l.at l.leaps.items l.marks;
  many : StayAsMany l.fn.marks l.marks;
}
