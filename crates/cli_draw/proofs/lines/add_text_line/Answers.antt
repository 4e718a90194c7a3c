use Rattle.cli_draw.proofs.lines.add_text_line.Goals as goal

pub returns-in-Character : goal.returns-in-Character
returns-in-Character g c = rw c.in-Character.is c.add_lined.ensures

pub returns-in-Words : goal.returns-in-Words
returns-in-Words g c = rw c.in-Words.is c.add_refusal_line.ensures
