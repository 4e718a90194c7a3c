use Rattle.text_reasons.proofs.forms.add_forms.Goals as goal

pub returns : goal.returns
returns g c = rw (c.next_near-third.ensures.value, c.next_near-second.ensures.value) at c.add_told.ensures
