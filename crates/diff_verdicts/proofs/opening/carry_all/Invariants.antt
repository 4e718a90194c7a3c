use Rattle.std.proofs.Common.{◌≡◌, drop}
use Rattle.scan_partial.specs.Sizes.{AreAsLong}
use Rattle.diff_meaning.specs.Verdicts.{pairs_of}
use Rattle.diff_verdicts.specs.Carrying.{carried_all}
use Rattle.diff_verdicts.proofs.opening.carry_all.Given as goal

abbrev pub invariant-loop-number : goal.invariant-loop-number
invariant-loop-number l = record {
  known : carried_all l.sort (drop l.number (pairs_of l.sort l.matching)) (record { of_old = l.of_old; of_new = l.of_new })
      ≡ carried_all l.sort (pairs_of l.sort l.matching) (record { of_old = l.fn.of_old; of_new = l.fn.of_new });
  of_old : AreAsLong l.of_old l.fn.of_old;
  of_new : AreAsLong l.of_new l.fn.of_new;
}
