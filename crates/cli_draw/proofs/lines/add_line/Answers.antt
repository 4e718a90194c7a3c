use Rattle.cli_draw.proofs.lines.add_line.Goals as goal

pub returns-in-AlikeNames : goal.returns-in-AlikeNames
returns-in-AlikeNames g c = rw c.in-AlikeNames.is c.add_worded.ensures
