use Rattle.diagram_reader.proofs.ReadingLaws.{read_whole}
use Rattle.diagram_reader.proofs.WellFormed.{read_well_formed}
use Rattle.diagram_reader.proofs.build.read_drawing.Goals as goal

pub new-requires-clause-whole : goal.new-requires-clause-whole
new-requires-clause-whole c = read_whole _ _ c.in_ok-rungs.ensures.found

pub new-requires-clause-well_formed : goal.new-requires-clause-well_formed
new-requires-clause-well_formed c = read_well_formed _ _ c.in_ok-rungs.ensures.found

pub returns-clause-found : goal.returns-clause-found
returns-clause-found c = rw c.in_ok-program.ensures c.in_ok-rungs.ensures.found
