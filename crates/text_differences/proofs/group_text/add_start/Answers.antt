use Rattle.text_differences.proofs.group_text.add_start.Goals as goal

pub returns-in-Table : goal.returns-in-Table
returns-in-Table g c = rw c.in-Table.is c.add_header.ensures
