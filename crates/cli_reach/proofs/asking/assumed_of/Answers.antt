use Rattle.std.proofs.Common.{inl}
use Rattle.cli_reach.proofs.asking.assumed_of.Goals as goal

pub returns-in-Err-clause-fault : goal.returns-in-Err-clause-fault
returns-in-Err-clause-fault c = inl (rw c.as_slice-expressions.ensures.value at c.in-Err.ensures.fault)
