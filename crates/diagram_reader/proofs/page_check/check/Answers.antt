use Rattle.diagram_page.specs.Seen.{seen}
use Rattle.diagram_reader.proofs.DrawingLaws.{sound_page}
use Rattle.diagram_reader.proofs.page_check.check.Goals as goal

pub returns-clause-sound : goal.returns-clause-sound
returns-clause-sound c = sound_page (seen c.args.page) c.in_ok-labels.ensures.kept c.in_default.ensures.none c.in_default-broken_targets.ensures.none
