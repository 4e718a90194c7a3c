use Rattle.std.proofs.Common.{◌++◌, [], length, refl}
use Rattle.search_groups.specs.Groups.{cells}
use Rattle.io_text.proofs.Sending.{sends_err, sends_last, sends_none, sends_prefix}
use Rattle.text_causes.specs.Forms.{joint}
use Rattle.text_causes.specs.TermText.{bracketed, literals}
use Rattle.text_causes.proofs.TermLaws.{bracketed_is}
use Rattle.text_differences.specs.Forms.{names_in}
use Rattle.text_differences.proofs.group_rows.add_alternative.Goals as goal

pub returns-in_err-add : goal.returns-in_err-add
returns-in_err-add g c = sends_err _ _ _ _ _ _ c.from_residual.ensures.0
    (let alternative = bracketed (literals (names_in c.args.view) (cells (length c.args.view.listed.now) c.args.next.group)) in
    let before = joint c.args.next.is_first in
    sends_prefix _ _ _ c.args.buffer.now c.args.buffer.now (before ++ alternative) [] before alternative refl (sends_none _ c.args.buffer.now)
    (rw c.joint.ensures at c.in_err-add.ensures))

pub returns : goal.returns
returns g c =
    let ls = literals (names_in c.args.view) (cells (length c.args.view.listed.now) c.args.next.group) in
    let before = joint c.args.next.is_first in
    sends_last _ _ _ _ _ _ (before ++ bracketed ls) before (bracketed ls) _ refl (rw c.joint.ensures at c.in_ok-add.ensures)
    (rw (c.decls-decls.ensures, bracketed_is ls) at c.add_term.ensures)
