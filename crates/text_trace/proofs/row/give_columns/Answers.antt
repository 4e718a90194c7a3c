use Rattle.std.proofs.Common.{◌≡◌, ◌∙◌, suc, Some, add-one, ap, arith, get_or, length-set, refl, set, sym, take_all}
use Rattle.std.proofs.lemmas.Option.{slice_get-get_or}
use Rattle.csv.specs.Records.{field_at, fields_of}
use Rattle.io_text.specs.Text.{is_on}
use Rattle.text_trace.specs.Room.{bits_of}
use Rattle.text_trace.specs.Stimulus.{given_by}
use Rattle.text_trace.proofs.Bits.{bit_at}
use Rattle.text_trace.proofs.Lists.{given_next}
use Rattle.text_trace.proofs.row.give_columns.Goals as goal

pub loop-number-init : goal.loop-number-init
loop-number-init c = (refl, refl)

pub bounds-image-column : goal.bounds-image-column
bounds-image-column c =
    let below = c.requires.below c.loop-number.number 0 c.loop-number-test.true in
    omega (arith, below, c.loop-number.invariant.0)

pub loop-number-preserved : goal.loop-number-preserved
loop-number-preserved c =
    let inv = c.loop-number.invariant in
    let columns = c.args.columns.now in
    let n = c.loop-number.number in
    let k = get_or columns n 0 in
    let fs = fields_of c.args.row.now in
    let bit : is_on (field_at fs (suc n)) ≡ c.is_on.result = ap (λ i. is_on (field_at fs i)) (sym (add-one n)) ∙ sym c.is_on.ensures in
    let here = bit_at fs n (omega (arith, c.requires.count, c.loop-number-test.true)) ∙ ap Some bit in
    let next = given_next columns (bits_of fs) c.args.image.now n k c.is_on.result (slice_get-get_or columns n 0 c.loop-number-test.true) here in
    (length-set c.loop-number.image k c.is_on.result ∙ inv.0, ap (λ l. set l k c.is_on.result) inv.1 ∙ sym next)

pub returns : goal.returns
returns c =
    c.loop-number.invariant.1 ∙ ap (λ l. given_by l (bits_of (fields_of c.args.row.now)) c.args.image.now) (take_all c.loop-number.number c.args.columns.now (omega arith))
