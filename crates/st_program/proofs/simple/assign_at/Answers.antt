use Rattle.st_program.specs.Statements.{assign}
use Rattle.st_program.proofs.simple.assign_at.Goals as goal

pub returns-in-Ok-clause-simple : goal.returns-in-Ok-clause-simple
returns-in-Ok-clause-simple c =
    assign _ _ _ _ _ _ _ _ _ c.requires c.in_ok-behind.ensures.has c.in_ok-value.ensures.expressed c.in-Ok.ensures.ends c.in-Ok.ensures.notes
