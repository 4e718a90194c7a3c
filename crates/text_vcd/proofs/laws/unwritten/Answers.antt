use Rattle.text_vcd.proofs.Keeping.{unwritten_kept}
use Rattle.text_vcd.proofs.laws.unwritten.Goals as goal

pub returns : goal.returns
returns c = unwritten_kept
