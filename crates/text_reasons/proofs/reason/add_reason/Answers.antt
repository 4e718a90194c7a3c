use Rattle.std.proofs.Common.{refl}
use Rattle.io_text.proofs.Sending.{sends_last}
use Rattle.text_reasons.specs.Advice.{advice}
use Rattle.text_reasons.specs.Reasons.{reason_text, shown_text}
use Rattle.text_reasons.proofs.Quoting.{first_failed}
use Rattle.text_reasons.proofs.reason.add_reason.Goals as goal

pub returns-in_err-add_shown : goal.returns-in_err-add_shown
returns-in_err-add_shown g c =
    let text = c.args.text.now in
    let f = c.args.fault.now in
    first_failed _ _ _ _ (reason_text text f c.args.column) (shown_text text f c.args.column) (advice text f c.args.column) _ c.from_residual.ensures.0 refl c.in_err-add_shown.ensures

pub returns : goal.returns
returns g c =
    let text = c.args.text.now in
    let f = c.args.fault.now in
    sends_last _ _ _ _ _ _ (reason_text text f c.args.column) (shown_text text f c.args.column) (advice text f c.args.column) _ refl c.in_ok-add_shown.ensures c.add_advice.ensures
