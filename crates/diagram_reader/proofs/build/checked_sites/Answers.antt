use Rattle.std.proofs.Common.{refl}
use Rattle.diagram_page.specs.Seen.{seen}
use Rattle.diagram_reader.proofs.ReadingLaws.{sites_drawn}
use Rattle.diagram_reader.proofs.build.checked_sites.Goals as goal

pub returns-clause-found : goal.returns-clause-found
returns-clause-found c = sites_drawn (seen c.args.page) _ _ c.in_ok-labels.ensures.sound refl c.in_ok-sites.ensures
