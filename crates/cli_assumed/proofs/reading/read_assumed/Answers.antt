use Rattle.cli_assumed.proofs.Assumed.{word_at}
use Rattle.cli_assumed.proofs.reading.read_assumed.Goals as goal

pub assumption_fault-requires : goal.assumption_fault-requires
assumption_fault-requires c = word_at _ _ c.in-Err.refused.fault c.in-Err.ensures.refused.refused
