use Rattle.text_report.proofs.Adding.{adds_then}
use Rattle.text_report.proofs.head.add_margins.Goals as goal

pub returns : goal.returns
returns c =
    adds_then _ _ _ _ _ (record { whole = c.add.ensures.whole; added = c.add.ensures.added })
    (adds_then _ _ _ _ _ c.add_margin.ensures
    (adds_then _ _ _ _ _ c.add_margin-2.ensures
    (adds_then _ _ _ _ _ c.add_margin-3.ensures (record { whole = c.add-2.ensures.whole; added = c.add-2.ensures.added }))))
