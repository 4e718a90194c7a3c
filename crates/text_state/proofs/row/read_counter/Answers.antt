use Rattle.std.proofs.Common.{◌≡◌, ◌∙◌, Some, None, refl}
use Rattle.std.specs.Fmt.{signed_decimal}
use Rattle.std.proofs.lemmas.Option.{same_Some}
use Rattle.text_state.proofs.Items.{as_counter, same_counter, counter_cv, counter_last, counter_q}
use Rattle.text_state.proofs.row.read_counter.Goals as goal

pub returns-in_default-clause-none : goal.returns-in_default-clause-none
returns-in_default-clause-none c = λ _ moment s h.
    let t = as_counter _ moment _ s h in
    let bad : None ≡ Some (signed_decimal t.z) = c.in_default.ensures.value ∙ counter_cv _ _ t.l _ t.q t.same in cc

pub returns-in_default-read_signed-clause-none : goal.returns-in_default-read_signed-clause-none
returns-in_default-read_signed-clause-none c = λ _ moment s h.
    let t = as_counter _ moment _ s h in
    c.in_default-read_signed.ensures.none refl t.z t.fits (same_Some _ _ (c.in-Some.ensures.value ∙ counter_cv _ _ t.l _ t.q t.same))

pub returns-then-not-is_counter-clause-none : goal.returns-then-not-is_counter-clause-none
returns-then-not-is_counter-clause-none c = λ _ moment s h.
    let t = as_counter _ moment _ s h in
    let same = same_Some _ _ (c.in-Some.ensures.value ∙ counter_cv _ _ t.l _ t.q t.same) in
    let last = c.is_on-last.ensures ∙ counter_last _ _ t.l _ t.q t.same in
    let q = c.is_on-q.ensures ∙ counter_q _ _ t.l _ t.q t.same in
    c.if-not-is_counter.ensures.other refl (t.same ∙ same_counter _ _ _ _ _ _ _ _ _ c.bit_field.ensures c.bit_field-2.ensures last same q)
