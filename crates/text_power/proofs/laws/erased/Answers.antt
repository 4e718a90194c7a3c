use Rattle.text_power.proofs.Erasing.{marks_erased}
use Rattle.text_power.proofs.laws.erased.Goals as goal

pub returns : goal.returns
returns c = marks_erased
