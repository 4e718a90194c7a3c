use Rattle.std.proofs.Common.{◌≡◌, ◌∙◌, false, true, arith, sym}
use Rattle.std.proofs.lemmas.Option.{same_Some}
use Rattle.csv.specs.Records.{fields_of}
use Rattle.text_trace.proofs.Bits.{is_read, row_bits, row_first}
use Rattle.text_trace.proofs.row.read_row.Goals as goal

pub returns-in_default-clause-none : goal.returns-in_default-clause-none
returns-in_default-clause-none c = λ _ moment bits h.
    let bad = c.in_default.ensures.value ∙ row_first c.args.columns.now (fields_of c.args.row.now) moment bits h in cc

pub returns-then-not-are_bits-clause-none : goal.returns-then-not-are_bits-clause-none
returns-then-not-are_bits-clause-none c = λ _ moment bits h.
    let bad : false ≡ true = sym c.if-not-are_bits.true ∙ c.are_bits.ensures ∙ row_bits c.args.columns.now (fields_of c.args.row.now) moment bits h in cc

pub returns-clause-some : goal.returns-clause-some
returns-clause-some c =
    is_read c.read_number.result c.args.columns.now (fields_of c.args.row.now) c.in-Some.field.now (omega (arith, c.len.ensures, c.if-len-columns.false)) (sym c.in-Some.ensures.value)
    (sym c.are_bits.ensures ∙ c.if-not-are_bits.false) c.read_number.ensures.some c.read_number.ensures.small

pub returns-clause-none : goal.returns-clause-none
returns-clause-none c = λ e moment bits h.
    c.read_number.ensures.none e moment h.small (same_Some _ _ (c.in-Some.ensures.value ∙ row_first c.args.columns.now (fields_of c.args.row.now) moment bits h))
