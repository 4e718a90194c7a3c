use Rattle.std.proofs.Common.{◌∙◌, refl}
use Rattle.text_state.proofs.Items.{as_bistable, bistable_q, same_bistable}
use Rattle.text_state.proofs.row.read_bistable.Goals as goal

pub returns-then-not-is_bistable-clause-none : goal.returns-then-not-is_bistable-clause-none
returns-then-not-is_bistable-clause-none c = λ _ moment s h.
    let t = as_bistable _ moment _ s h in
    let q = c.is_on-q.ensures ∙ bistable_q _ _ t.q t.same in
    c.if-not-is_bistable.ensures.other refl (t.same ∙ same_bistable _ _ _ _ c.bit_field.ensures q)
