use Rattle.std.proofs.Common.{◌≡◌, ◌∙◌, None, ap, sym}
use Rattle.io_text.proofs.Sending.{sends_none, sends_same}
use Rattle.text_reasons.specs.Forms.{first_near, forms_at, least, nearest_text}
use Rattle.text_reasons.proofs.forms.add_nearest.Goals as goal

pub returns-in-None : goal.returns-in-None
returns-in-None g c =
    let cell = c.args.cell.now in
    let none : first_near cell (least cell) ≡ None = ap (λ d. first_near cell d) (sym c.least-distance.ensures) ∙ (sym c.first_near.ensures.value ∙ c.in-None.is) in
    sends_same _ _ _ _ _ (nearest_text cell) (sym (ap (λ o. forms_at cell (least cell) o) none)) (sends_none _ _)
