use Rattle.std.proofs.Common.{◌+◌, ◌++◌, ◌∙◌, append-nil, ap, arith, false, refl, sym}
use Rattle.io_text.proofs.Sending.{sends_last, sends_same}
use Rattle.text_reasons.specs.Reasons.{marks_text, quote}
use Rattle.text_reasons.proofs.Quoting.{first_failed, none_past}
use Rattle.text_reasons.proofs.quote.add_below.Goals as goal

pub returns-in_err-add_marks : goal.returns-in_err-add_marks
returns-in_err-add_marks g c =
    let next = quote c.args.text.now false (c.args.line + 1) in
    first_failed _ _ _ _ (marks_text c.args.marks ++ next) (marks_text c.args.marks) next _ c.from_residual.ensures.0 refl c.in_err-add_marks.ensures

pub returns-then-text-line : goal.returns-then-text-line
returns-then-text-line g c =
    let text = c.args.text.now in
    let line = c.args.line in
    sends_same _ _ _ _ (marks_text c.args.marks) (marks_text c.args.marks ++ quote text false (line + 1))
    (sym (ap (λ more. marks_text c.args.marks ++ more) (none_past text line (omega (arith, c.if-text-line.true))) ∙ append-nil (marks_text c.args.marks))) c.in_ok-add_marks.ensures

pub returns : goal.returns
returns g c =
    let next = quote c.args.text.now false (c.args.line + 1) in
    sends_last _ _ _ _ _ _ (marks_text c.args.marks ++ next) (marks_text c.args.marks) next _ refl c.in_ok-add_marks.ensures c.add_quote.ensures
