use Rattle.diff_meaning.specs.Verdicts.{pairs_of}
use Rattle.diff_meaning.specs.Witnesses.{told_of}
use Rattle.diff_verdicts.proofs.Listing.{AreTrueBelow}
use Rattle.diff_verdicts.specs.Judging.{JudgesTheSame}
use Rattle.diff_verdicts.specs.Keeping.{AreKept}
use Rattle.diff_verdicts.proofs.verdicts.judge_sort.Given as goal

abbrev pub invariant-loop-number : goal.invariant-loop-number
invariant-loop-number l =
    let j = l.fn.judge in
    record {
      truth : AreTrueBelow j.counted j.matching j.old_program j.new_program l.sort l.number l.verdicts.items;
      kept : AreKept j.counted j.matching j.old_program j.new_program l.effort.keeps (told_of l.sort (pairs_of l.sort j.matching) l.verdicts.items)
          l.fn.witnesses.items l.witnesses.items;
      same : JudgesTheSame j l.judge;
    }
