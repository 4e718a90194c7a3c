use Rattle.std.proofs.Common.{◌∙◌, sym}
use Rattle.st_program.specs.Programs.{marked}
use Rattle.st_program.proofs.Endings.{ending_once}
use Rattle.st_program.proofs.program.is_ending.Goals as goal

pub returns-in-Some : goal.returns-in-Some
returns-in-Some c = λ finish. marked _ _ c.in-Some.ensures.has (c.is_finish.ensures finish)

pub returns-in-None : goal.returns-in-None
returns-in-None c = λ empty. ending_once _ (sym c.is_empty.ensures ∙ empty)
