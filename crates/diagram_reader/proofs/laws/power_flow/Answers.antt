use Rattle.diagram_reader.proofs.FeedingLaws.{same_groups, same_feeding}
use Rattle.diagram_reader.proofs.laws.power_flow.Goals as goal

pub returns : goal.returns
returns c = record { groups = same_groups; feeding = same_feeding }
