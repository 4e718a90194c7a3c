use Rattle.std.proofs.Common.{◌+◌, ◌++◌, false, refl, true}
use Rattle.io_text.proofs.Sending.{sends_last}
use Rattle.text_reasons.specs.Reasons.{marks_text, quote}
use Rattle.text_reasons.proofs.Quoting.{first_failed}
use Rattle.text_reasons.proofs.quote.add_from.Goals as goal

pub returns-in_err-add_quote : goal.returns-in_err-add_quote
returns-in_err-add_quote g c =
    let below = marks_text c.args.marks ++ quote c.args.text.now false (c.args.line + 1) in
    first_failed _ _ _ _ (quote c.args.text.now true c.args.line ++ below) (quote c.args.text.now true c.args.line) below _ c.from_residual.ensures.0 refl
    c.in_err-add_quote.ensures

pub returns : goal.returns
returns g c =
    let below = marks_text c.args.marks ++ quote c.args.text.now false (c.args.line + 1) in
    sends_last _ _ _ _ _ _ (quote c.args.text.now true c.args.line ++ below) (quote c.args.text.now true c.args.line) below _ refl c.in_ok-add_quote.ensures
    c.add_below.ensures
