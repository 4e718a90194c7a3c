use Rattle.std.proofs.Common.{◌+◌, ◌-◌, ◌++◌, false, true}
use Rattle.io_text.proofs.Sending.{sends_last}
use Rattle.text_reasons.specs.Reasons.{marks_text, near, quote}
use Rattle.text_reasons.proofs.Quoting.{first_failed, near_some}
use Rattle.text_reasons.proofs.quote.add_near.Goals as goal

pub returns-in_err-add_quote : goal.returns-in_err-add_quote
returns-in_err-add_quote g c =
    let text = c.args.text.now in
    let line = c.args.line in
    let under = marks_text c.args.marks in
    first_failed _ _ _ _ (near text line under) (quote text false (line - 1)) (quote text true line ++ (under ++ quote text false (line + 1))) _
    c.from_residual.ensures.0 (near_some text line under c.if-line-eq0.false) c.in_err-add_quote.ensures

pub returns : goal.returns
returns g c =
    let text = c.args.text.now in
    let line = c.args.line in
    let under = marks_text c.args.marks in
    sends_last _ _ _ _ _ _ (near text line under) (quote text false (line - 1)) (quote text true line ++ (under ++ quote text false (line + 1))) _
    (near_some text line under c.if-line-eq0.false) c.in_ok-add_quote.ensures c.add_from.ensures
