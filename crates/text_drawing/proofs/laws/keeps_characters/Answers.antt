use Rattle.text_drawing.proofs.Untagging.{characters_kept}
use Rattle.text_drawing.proofs.laws.keeps_characters.Goals as goal

pub returns : goal.returns
returns c = characters_kept
