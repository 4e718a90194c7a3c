use Rattle.std.proofs.Common.{◌++◌, [], codes, refl}
use Rattle.io_text.proofs.Sending.{sends_err, sends_last, sends_none, sends_prefix}
use Rattle.text_findings.specs.FindingText.{value_text}
use Rattle.text_findings.proofs.rows.add_after_comma.Goals as goal

pub returns-in_err-add : goal.returns-in_err-add
returns-in_err-add g c = sends_err _ _ _ _ _ _ c.from_residual.ensures.0
    (let text = value_text c.args.value in
    sends_prefix _ _ _ c.args.buffer.now c.args.buffer.now (codes "," ++ text) [] (codes ",") text refl (sends_none _ c.args.buffer.now) c.in_err-add.ensures)

pub returns : goal.returns
returns g c =
    let text = value_text c.args.value in
    sends_last _ _ _ _ _ _ (codes "," ++ text) (codes ",") text _ refl c.in_ok-add.ensures c.add_value.ensures
