use Rattle.std.proofs.Common.{◌++◌, [], append_assoc, codes, length, refl, sym}
use Rattle.search_groups.specs.Groups.{cells}
use Rattle.io_text.proofs.Sending.{sends_err, sends_last, sends_more, sends_none, sends_prefix}
use Rattle.text_causes.specs.TermText.{literals, term}
use Rattle.text_causes.proofs.TermLaws.{term_is}
use Rattle.text_differences.specs.Forms.{names_in}
use Rattle.text_differences.specs.GroupText.{sign}
use Rattle.text_differences.proofs.group_rows.add_signed_term.Goals as goal

pub returns-in_err-add : goal.returns-in_err-add
returns-in_err-add g c = sends_err _ _ _ _ _ _ c.from_residual.ensures.0
    (let text = term (literals (names_in c.args.view) (cells (length c.args.view.listed.now) c.args.group)) in
    let before = sign c.args.view.side in
    sends_prefix _ _ _ c.args.buffer.now c.args.buffer.now (before ++ (text ++ codes "\n")) [] before (text ++ codes "\n") refl (sends_none _ c.args.buffer.now)
    (rw c.sign.ensures at c.in_err-add.ensures))

pub returns-in_err-add_term : goal.returns-in_err-add_term
returns-in_err-add_term g c = sends_err _ _ _ _ _ _ c.from_residual-in_err-add_term.ensures.0
    (let ls = literals (names_in c.args.view) (cells (length c.args.view.listed.now) c.args.group) in
    let before = sign c.args.view.side in
    sends_prefix _ _ _ _ _ (before ++ (term ls ++ codes "\n")) before (term ls) (codes "\n") refl (rw c.sign.ensures at c.in_ok-add.ensures)
    (rw (c.decls-decls.ensures, term_is ls) at c.in_err-add_term.ensures))

pub returns : goal.returns
returns g c =
    let ls = literals (names_in c.args.view) (cells (length c.args.view.listed.now) c.args.group) in
    let before = sign c.args.view.side in
    sends_last _ _ _ _ _ _ (before ++ (term ls ++ codes "\n")) (before ++ term ls) (codes "\n") _ (sym (append_assoc before (term ls) (codes "\n")))
    (sends_more _ _ _ _ _ _ before (term ls) (rw c.sign.ensures at c.in_ok-add.ensures) (rw (c.decls-decls.ensures, term_is ls) at c.in_ok-add_term.ensures)) c.add-2.ensures
