use Rattle.invariant_sets.proofs.Claims.{so_within, within_all}
use Rattle.invariant_sets.proofs.Settled.{alone_settled}
use Rattle.invariant_sets.proofs.staying.staying_of.Goals as goal

pub returns-then-has_all_of-clause-stays : goal.returns-then-has_all_of-clause-stays
returns-then-has_all_of-clause-stays c =
    let begun = c.in_ok-set.ensures in
    let left = c.in_ok-pairs.ensures.left in
    let together = c.in_ok-pairs.ensures.together in
    record {
      steady = record {
        set = left.set;
        so = so_within _ _ _ left.within begun.so;
        settled = together.settled;
        most = λ other is so stays. left.most other is stays (within_all _ _ _ (c.requires.alone.most other is so stays) begun.within);
      };
      apart = together.apart;
    }

pub returns-clause-stays : goal.returns-clause-stays
returns-clause-stays c =
    let alone = c.requires.alone in
    record {
      steady = record { set = alone.set; so = alone.so; settled = alone_settled _ _ _ _ alone.settled; most = alone.most };
      apart = c.in_ok-pairs-2.ensures.are;
    }
