use Rattle.cli_draw.proofs.sentences.add_text_sentence.Goals as goal

pub returns-in-Character : goal.returns-in-Character
returns-in-Character g c = rw c.in-Character.is c.add.ensures

pub returns-in-Words : goal.returns-in-Words
returns-in-Words g c = rw c.in-Words.is c.add_refusal_sentence.ensures
