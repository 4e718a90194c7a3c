use Rattle.std.proofs.Common.{◌∙◌}
use Rattle.invariant_sets.proofs.Told.{told_from}
use Rattle.invariant_sets.proofs.together.first_pairs.Goals as goal

pub returns-clause-may : goal.returns-clause-may
returns-clause-may c = record {
  outside = c.in_ok-pairs.ensures.outside;
  apart = c.in_ok-pairs.ensures.apart;
  told = λ pair outside differ off told. c.in_ok-pairs.ensures.told pair outside differ off
      (told_from c.args.start.program.now pair c.args.set.now _ _ (c.copy_from.ensures ∙ c.know.ensures.known) c.scan_known.ensures.known told);
}
