use Rattle.text_vcd.proofs.Codes.{codes_apart}
use Rattle.text_vcd.proofs.laws.distinct_codes.Goals as goal

pub returns : goal.returns
returns c = codes_apart
