use Rattle.text_state.proofs.Same.{one_state}
use Rattle.text_state.proofs.laws.one_state.Goals as goal

pub returns : goal.returns
returns c = one_state
