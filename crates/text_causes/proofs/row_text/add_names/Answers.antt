use Rattle.std.proofs.Common.{◌+◌, drop, map, slice_get, sym, take}
use Rattle.io_text.specs.Text.{after_commas}
use Rattle.io_text.proofs.Commas.{commas_cut, commas_more}
use Rattle.text_causes.specs.Rows.{name_in}
use Rattle.io_text.proofs.Sending.{sends_prefix, sends_more, sends_same, sends_err}
use Rattle.text_causes.proofs.row_text.add_names.Goals as goal

pub loop-var-preserved : goal.loop-var-preserved
loop-var-preserved g c =
    let listed = c.args.listed.now in
    let i = c.loop-var.var-index in
    sends_same _ _ _ _ _ _ (sym (commas_more (λ v. name_in (slice_get c.args.decls.now.vars v)) listed i 0 c.loop-var-test.true))
    (sends_more _ _ _ _ _ _ (after_commas (map (λ v. name_in (slice_get c.args.decls.now.vars v)) (take i listed))) _ c.loop-var.invariant c.in_ok-add_name.ensures)

pub returns-in_err-add_name : goal.returns-in_err-add_name
returns-in_err-add_name g c = sends_err _ _ _ _ _ _ c.from_residual.ensures.0
    (let listed = c.args.listed.now in
    let i = c.loop-var.var-index in
    sends_prefix _ _ _ _ _ _ (after_commas (map (λ v. name_in (slice_get c.args.decls.now.vars v)) (take i listed))) _
    (after_commas (map (λ v. name_in (slice_get c.args.decls.now.vars v)) (drop (i + 1) listed)))
    (commas_cut (λ v. name_in (slice_get c.args.decls.now.vars v)) listed i 0 c.loop-var-test.true) c.loop-var.invariant c.in_err-add_name.ensures)
