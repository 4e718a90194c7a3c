use Rattle.diagram_reader.proofs.FeedingLaws.{feeds_dashes, feeds_cells}
use Rattle.diagram_reader.proofs.laws.fed_cells.Goals as goal

pub returns : goal.returns
returns c = record { dashes = feeds_dashes; cells = feeds_cells }
