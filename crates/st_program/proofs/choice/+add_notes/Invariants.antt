use Rattle.st_program.proofs.choice.+add_notes.Given as goal

abbrev pub decreases-add_notes : goal.decreases-add_notes
decreases-add_notes l = l.times
