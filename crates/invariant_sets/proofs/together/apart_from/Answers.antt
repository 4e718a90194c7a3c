use Rattle.invariant_cases.specs.Assuming.{assumed_of}
use Rattle.invariant_sets.proofs.Kept.{are_pairs}
use Rattle.invariant_sets.proofs.Told.{still_told}
use Rattle.invariant_sets.proofs.together.apart_from.Goals as goal

pub returns-clause-are : goal.returns-clause-are
returns-clause-are c =
    let may = c.in_ok-pairs.ensures.may in
    are_pairs c.args.start.program.now (assumed_of c.args.start.assumption) c.args.start.state.now c.args.set.now c.in_ok-pairs.pairs.items c.settle.new.pairs.items c.first_pairs.new.buffers.case
    may.outside may.apart c.settle.ensures.within c.settle.ensures.excluded c.first_pairs.ensures.case

pub returns-clause-told : goal.returns-clause-told
returns-clause-told c =
    still_told c.args.start.program.now c.args.start.state.now c.args.set.now c.in_ok-pairs.pairs.items c.settle.new.pairs.items c.first_pairs.new.buffers.case
    c.first_pairs.ensures.case c.in_ok-pairs.ensures.may.told c.settle.ensures.told
