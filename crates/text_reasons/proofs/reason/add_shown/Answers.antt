use Rattle.std.proofs.Common.{◌++◌, ◌∙◌, ap, codes, option_map, sym}
use Rattle.io_text.proofs.Sending.{sends_last}
use Rattle.text_reasons.specs.Reasons.{marks_in, marks_text, near, ruler, shown_text, var_marks}
use Rattle.text_reasons.proofs.Quoting.{first_failed}
use Rattle.text_reasons.proofs.reason.add_shown.Goals as goal

pub returns-in_err-add_sentence-in-Vars : goal.returns-in_err-add_sentence-in-Vars
returns-in_err-add_sentence-in-Vars g c =
    let text = c.args.text.now in
    let more = near text c.in-Vars.fault.line (marks_text (var_marks c.in-Vars.fault.rule text c.in-Vars.fault.line)) in
    first_failed _ _ _ _ _ (c.var_rule.result.sentence.now ++ codes "\n") more _ c.from_residual.ensures.0
    (ap (λ f. shown_text text f c.args.column) c.in-Vars.is ∙ ap (λ s. (s ++ codes "\n") ++ more) (sym c.var_rule.ensures.sentence)) c.in_err-add_sentence-in-Vars.ensures

pub returns-in_err-add_sentence-in-Grid : goal.returns-in_err-add_sentence-in-Grid
returns-in_err-add_sentence-in-Grid g c =
    let text = c.args.text.now in
    let more = ruler ++ near text c.in-Grid.line (marks_text (option_map (marks_in c.in-Grid.rule) c.args.column)) in
    first_failed _ _ _ _ _ (c.grid_rule.result.sentence.now ++ codes "\n") more _ c.from_residual-in_err-add_sentence-in-Grid.ensures.0
    (ap (λ f. shown_text text f c.args.column) c.in-Grid.is ∙ ap (λ s. (s ++ codes "\n") ++ more) (sym c.grid_rule.ensures.sentence)) c.in_err-add_sentence-in-Grid.ensures

pub returns-in_ok-add_sentence-in-Vars : goal.returns-in_ok-add_sentence-in-Vars
returns-in_ok-add_sentence-in-Vars g c =
    let text = c.args.text.now in
    let more = near text c.in-Vars.fault.line (marks_text (var_marks c.in-Vars.fault.rule text c.in-Vars.fault.line)) in
    sends_last _ _ _ _ _ _ _ (c.var_rule.result.sentence.now ++ codes "\n") more _
    (ap (λ f. shown_text text f c.args.column) c.in-Vars.is ∙ ap (λ s. (s ++ codes "\n") ++ more) (sym c.var_rule.ensures.sentence)) c.in_ok-add_sentence-in-Vars.ensures
    (rw c.var_marks.ensures.value at c.add_near.ensures)

pub returns-in_ok-add_sentence-in-Grid : goal.returns-in_ok-add_sentence-in-Grid
returns-in_ok-add_sentence-in-Grid g c =
    let text = c.args.text.now in
    let more = ruler ++ near text c.in-Grid.line (marks_text (option_map (marks_in c.in-Grid.rule) c.args.column)) in
    sends_last _ _ _ _ _ _ _ (c.grid_rule.result.sentence.now ++ codes "\n") more _
    (ap (λ f. shown_text text f c.args.column) c.in-Grid.is ∙ ap (λ s. (s ++ codes "\n") ++ more) (sym c.grid_rule.ensures.sentence)) c.in_ok-add_sentence-in-Grid.ensures
    (rw c.marks.ensures.value at c.add_place.ensures)
