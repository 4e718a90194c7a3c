use Rattle.diagram_page.proofs.LabelLaws.{label_found, label_known}
use Rattle.diagram_page.proofs.laws.label_lines.Goals as goal

pub returns : goal.returns
returns c = record { found = label_found; known = label_known }
