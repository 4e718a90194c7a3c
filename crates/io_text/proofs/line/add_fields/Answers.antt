use Rattle.std.proofs.Common.{◌+◌, ℕ, List, drop, map, sym, take, []}
use Rattle.std.specs.Borrow.{Bor}
use Rattle.io_text.specs.Text.{after_commas}
use Rattle.io_text.proofs.Commas.{commas_cut, commas_more}
use Rattle.io_text.proofs.Sending.{sends_prefix, sends_more, sends_same, sends_err}
use Rattle.io_text.proofs.line.add_fields.Goals as goal

abbrev now : Bor (List ℕ) → List ℕ
now f = f.now

abbrev none : Bor (List ℕ)
none = record { ref_ptr = (0, 0); now = [] }

pub loop-field-preserved : goal.loop-field-preserved
loop-field-preserved g c =
    let fields = c.args.fields.now in
    let i = c.loop-field.field-index in
    sends_same _ _ _ _ _ _ (sym (commas_more now fields i none c.loop-field-test.true))
    (sends_more _ _ _ _ _ _ (after_commas (map now (take i fields))) _ c.loop-field.invariant c.in_ok-add_field.ensures)

pub returns-in_err-add_field : goal.returns-in_err-add_field
returns-in_err-add_field g c = sends_err _ _ _ _ _ _ c.from_residual.ensures.0
    (let fields = c.args.fields.now in
    let i = c.loop-field.field-index in
    sends_prefix _ _ _ _ _ _ (after_commas (map now (take i fields))) _ (after_commas (map now (drop (i + 1) fields)))
    (commas_cut now fields i none c.loop-field-test.true) c.loop-field.invariant c.in_err-add_field.ensures)
