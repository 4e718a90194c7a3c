use Rattle.std.proofs.Common.{rules}
use Rattle.diagram_page.specs.Seen.{seen}
use Rattle.diagram_reader.proofs.TornLaws.{torn_block}
use Rattle.diagram_reader.proofs.rules.is_torn.Goals as goal

pub returns-in-Some : goal.returns-in-Some
returns-in-Some c = torn_block (seen c.args.page) c.args.at.rung c.args.at.row c.args.at.column c.in-Some-Block.kind c.in-Some.pin _ (search rules) (search rules) c.lacks_lower.ensures
