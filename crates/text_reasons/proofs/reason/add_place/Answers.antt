use Rattle.std.proofs.Common.{◌++◌, refl}
use Rattle.io_text.proofs.Sending.{sends_last}
use Rattle.text_reasons.specs.Reasons.{marks_text, near, ruler}
use Rattle.text_reasons.proofs.Quoting.{first_failed}
use Rattle.text_reasons.proofs.reason.add_place.Goals as goal

pub returns-in_err-add : goal.returns-in_err-add
returns-in_err-add g c =
    let lines = near c.args.text.now c.args.line (marks_text c.args.marks) in
    first_failed _ _ _ _ (ruler ++ lines) ruler lines _ c.from_residual.ensures.0 refl c.in_err-add.ensures

pub returns : goal.returns
returns g c =
    let lines = near c.args.text.now c.args.line (marks_text c.args.marks) in
    sends_last _ _ _ _ _ _ (ruler ++ lines) ruler lines _ refl c.in_ok-add.ensures c.add_near.ensures
