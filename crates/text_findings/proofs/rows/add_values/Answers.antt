use Rattle.std.proofs.Common.{◌++◌, [], append_assoc, codes, refl, sym}
use Rattle.search_differences.specs.declared.side.Side.TheVariants.{Old, New}
use Rattle.io_text.proofs.Sending.{sends_err, sends_last, sends_more, sends_none, sends_prefix}
use Rattle.text_findings.specs.FindingText.{value_in, value_text}
use Rattle.text_findings.proofs.rows.add_values.Goals as goal

pub returns-in_err-add_after_comma : goal.returns-in_err-add_after_comma
returns-in_err-add_after_comma g c = sends_err _ _ _ _ _ _ c.from_residual.ensures.0
    (let first = codes "," ++ value_text (value_in Old c.args.remark) in
    let rest = (codes "," ++ value_text (value_in New c.args.remark)) ++ codes "\n" in
    sends_prefix _ _ _ c.args.buffer.now c.args.buffer.now (first ++ rest) [] first rest refl (sends_none _ c.args.buffer.now)
    (rw c.value_in.ensures at c.in_err-add_after_comma.ensures))

pub returns-in_err-add_after_comma-2 : goal.returns-in_err-add_after_comma-2
returns-in_err-add_after_comma-2 g c = sends_err _ _ _ _ _ _ c.from_residual-in_err-add_after_comma-2.ensures.0
    (let first = codes "," ++ value_text (value_in Old c.args.remark) in
    let second = codes "," ++ value_text (value_in New c.args.remark) in
    sends_prefix _ _ _ _ _ (first ++ (second ++ codes "\n")) first second (codes "\n") refl
    (rw c.value_in.ensures at c.in_ok-add_after_comma.ensures) (rw c.value_in-2.ensures at c.in_err-add_after_comma-2.ensures))

pub returns : goal.returns
returns g c =
    let first = codes "," ++ value_text (value_in Old c.args.remark) in
    let second = codes "," ++ value_text (value_in New c.args.remark) in
    sends_last _ _ _ _ _ _ (first ++ (second ++ codes "\n")) (first ++ second) (codes "\n") _ (sym (append_assoc first second (codes "\n")))
    (sends_more _ _ _ _ _ _ first second (rw c.value_in.ensures at c.in_ok-add_after_comma.ensures) (rw c.value_in-2.ensures at c.in_ok-add_after_comma-2.ensures)) c.add.ensures
