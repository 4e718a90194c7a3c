use Rattle.text_warnings.proofs.places.is_warned.Goals as goal

pub returns-in-Apart : goal.returns-in-Apart
returns-in-Apart c = rw c.in-Apart.is (rw (c.from_number-at.ensures.0, c.from_number-at.ensures.1, c.from_number-at.ensures.2) at c.is_apart.ensures)
