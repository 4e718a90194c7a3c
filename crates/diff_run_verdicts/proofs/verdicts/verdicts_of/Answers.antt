use Rattle.diff_run_verdicts.specs.declared.names.NameSort.TheVariants.{Variables, Instances}
use Rattle.diff_run_verdicts.proofs.Listing.{all_told}
use Rattle.diff_run_verdicts.proofs.verdicts.verdicts_of.Goals as goal

pub returns-clause-truth : goal.returns-clause-truth
returns-clause-truth c = λ a p q found.
    let m = c.args.matching.now in
    record {
      variables = all_told a m p q Variables _ _ (rw c.deref.ensures.value at c.in_ok-variables.ensures) found.variables;
      instances = all_told a m p q Instances _ _ (rw c.deref-2.ensures.value at c.in_ok-instances.ensures) found.instances;
      memories = rw c.memories.ensures at c.in_ok-memories.ensures;
    }
