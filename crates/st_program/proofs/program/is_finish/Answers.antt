use Rattle.std.proofs.Common.{◌∙◌, sym}
use Rattle.st_program.proofs.Endings.{finish_at, finish_once}
use Rattle.st_program.proofs.program.is_finish.Goals as goal

pub returns-in-Some : goal.returns-in-Some
returns-in-Some c = λ empty. finish_at _ _ c.in-Some.ensures.has (sym c.is_empty.ensures ∙ empty)

pub returns-in-None : goal.returns-in-None
returns-in-None c = λ empty. finish_once _ (sym c.is_empty-in-None.ensures ∙ empty)
