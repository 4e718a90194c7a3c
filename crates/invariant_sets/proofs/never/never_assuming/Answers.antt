use Rattle.std.proofs.Common.{[]}
use Rattle.invariant_cases.specs.Assuming.{assumed_of}
use Rattle.invariant_sets.proofs.Claims.{so_within}
use Rattle.invariant_sets.proofs.Settled.{no_pairs}
use Rattle.invariant_sets.proofs.never.never_assuming.Goals as goal

pub returns-clause-is : goal.returns-clause-is
returns-clause-is c = record {
  set = c.settle.ensures.set;
  so = so_within _ _ _ c.settle.ensures.within c.in_ok-set.ensures.so;
  settled = c.settle.ensures.settled;
  most = λ other set so stays. c.settle.ensures.most other set stays (c.in_ok-set.ensures.most other set so);
}

pub returns-clause-so : goal.returns-clause-so
returns-clause-so c = λ scans allowed.
    (c.stays_assuming.ensures (assumed_of c.args.assumption) c.args.state.now c.requires c.checked.ensures c.settle.new.set c.settle.ensures.set
    (so_within _ _ _ c.settle.ensures.within c.in_ok-set.ensures.so) [] (no_pairs c.args.program.now (assumed_of c.args.assumption) c.args.state.now c.settle.new.set) c.settle.ensures.settled scans allowed).0
