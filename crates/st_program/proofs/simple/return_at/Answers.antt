use Rattle.st_program.specs.Statements.{leave}
use Rattle.st_program.proofs.simple.return_at.Goals as goal

pub returns-clause-simple : goal.returns-clause-simple
returns-clause-simple c = leave _ _ _ _ _ c.requires c.in_ok-rest.ensures.ends c.in_ok-rest.ensures.notes
