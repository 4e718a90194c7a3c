use Rattle.text_drawing.proofs.whole.add_tail_of.Goals as goal

pub returns-in-Page : goal.returns-in-Page
returns-in-Page g c = rw c.in-Page.is c.add_page_below.ensures
