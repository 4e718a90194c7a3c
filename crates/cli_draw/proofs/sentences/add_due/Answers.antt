use Rattle.cli_draw.proofs.sentences.add_due.Goals as goal

pub returns : goal.returns
returns g c = rw (← c.expected_words.ensures) (rw c.as_slice.ensures at c.add_pieces.ensures)
