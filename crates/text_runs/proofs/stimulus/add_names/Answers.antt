use Rattle.std.proofs.Common.{◌∙◌, ℕ, List, suc, drop, sym, take}
use Rattle.diagram_declarations.specs.Decls.{is_input}
use Rattle.diagram_declarations.specs.declared.decls.Var.{Var}
use Rattle.io_text.proofs.Sending.{sends_err, sends_more, sends_prefix, sends_same}
use Rattle.text_runs.proofs.Chosen.{chosen, chosen_cut, chosen_more}
use Rattle.text_runs.proofs.stimulus.add_names.Goals as goal

abbrev name_of : Var → List ℕ
name_of v = v.name

pub returns-in_err-add_field : goal.returns-in_err-add_field
returns-in_err-add_field g c = sends_err _ _ _ _ _ _ c.from_residual.ensures.0
    (let vars = c.args.vars.now in
    let n = c.loop-number.number in
    let here = chosen_cut is_input name_of vars n c.index-vars-number.result c.loop-number-test.true c.index-vars-number.is (sym c.is_input.ensures ∙ c.if-not-is_input.false) in
    sends_prefix _ _ _ _ _ _ (chosen is_input name_of (take n vars)) _ (chosen is_input name_of (drop (suc n) vars)) here c.loop-number.invariant (rw c.bytes.ensures.spelling at c.in_err-add_field.ensures))

pub loop-number-preserved : goal.loop-number-preserved
loop-number-preserved g c =
    let vars = c.args.vars.now in
    let n = c.loop-number.number in
    sends_same _ _ _ _ _ _ (chosen_more is_input name_of vars n c.index-vars-number.result c.loop-number-test.true c.index-vars-number.is (sym c.is_input.ensures ∙ c.if-not-is_input.false))
    (sends_more _ _ _ _ _ _ (chosen is_input name_of (take n vars)) _ c.loop-number.invariant (rw c.bytes.ensures.spelling at c.in_ok-add_field.ensures))
