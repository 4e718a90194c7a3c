use Rattle.st_program.specs.Declarations.{there, left_out}
use Rattle.st_program.proofs.declarations.after_semicolon.Goals as goal

pub returns-in-Some-clause-semicolon : goal.returns-in-Some-clause-semicolon
returns-in-Some-clause-semicolon c = there _ _ c.in-Some.ensures.marked

pub returns-in-None-clause-semicolon : goal.returns-in-None-clause-semicolon
returns-in-None-clause-semicolon c = left_out _
