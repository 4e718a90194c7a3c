use Rattle.std.proofs.Common.{rules}
use Rattle.plc_declarations.specs.Declarations.{listed}
use Rattle.plc_declarations.proofs.interface.behind_part.Goals as goal

pub returns : goal.returns
returns c = listed c.in-Some.section (search rules) (search rules) (search rules)
