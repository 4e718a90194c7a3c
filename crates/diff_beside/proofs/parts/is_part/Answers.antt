use Rattle.diff_beside.proofs.parts.is_part.Goals as goal

pub stay_alike-requires-clause-no_input : goal.stay_alike-requires-clause-no_input
stay_alike-requires-clause-no_input c = c.is_suited.ensures.no_input c.if-not-is_suited.false
