use Rattle.diagram_page.proofs.WordLaws.{word_found, word_one}
use Rattle.diagram_page.proofs.laws.words_over_cells.Goals as goal

pub returns : goal.returns
returns c = record { found = word_found; one = word_one }
