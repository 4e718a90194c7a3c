use Rattle.std.proofs.Common.{[], ◌++◌, ◌∙◌, ap, append-nil, arith, length-append, sym}
use Rattle.io_text.specs.Text.{lines_text}
use Rattle.io_text.proofs.Sending.{sends_err, sends_more, sends_none, sends_prefix, sends_same}
use Rattle.text_warnings.specs.Decided.{decided}
use Rattle.text_warnings.specs.Warnings.{declared_rows, name_rows, unused_rows}
use Rattle.text_warnings.proofs.SimilarRows.{declared_text}
use Rattle.text_warnings.proofs.write.add_declared.Goals as goal

pub returns-in_err-similar-clause-sends : goal.returns-in_err-similar-clause-sends
returns-in_err-similar-clause-sends g c = sends_err _ _ _ _ _ _ c.from_residual.ensures.0
    (let p = c.args.program.now in
    sends_prefix _ _ _ c.args.buffer.now c.args.buffer.now (lines_text (declared_rows decided p)) [] (lines_text (name_rows decided p.decls)) (lines_text (unused_rows decided p)) (declared_text p)
    (sends_none _ c.args.buffer.now) (rw c.decls.ensures at c.in_err-similar.ensures.sends))

pub returns-in_err-unused-clause-sends : goal.returns-in_err-unused-clause-sends
returns-in_err-unused-clause-sends g c = sends_err _ _ _ _ _ _ c.from_residual-in_err-unused.ensures.0
    (let p = c.args.program.now in
    let names = lines_text (name_rows decided p.decls) in
    let unused = lines_text (unused_rows decided p) in
    sends_prefix _ _ _ _ _ (lines_text (declared_rows decided p)) names unused [] (declared_text p ∙ ap (λ t. names ++ t) (sym (append-nil unused)))
    (rw c.decls.ensures at c.in_ok-similar.ensures.sends) c.in_err-unused.ensures.sends)

pub returns-clause-sends : goal.returns-clause-sends
returns-clause-sends g c =
    let p = c.args.program.now in
    let names = lines_text (name_rows decided p.decls) in
    let unused = lines_text (unused_rows decided p) in
    sends_same _ _ _ _ (names ++ unused) (lines_text (declared_rows decided p)) (sym (declared_text p))
    (sends_more _ _ _ _ _ _ names unused (rw c.decls.ensures at c.in_ok-similar.ensures.sends) c.in_ok-unused.ensures.sends)

pub returns-clause-count : goal.returns-clause-count
unfolding declared_rows
returns-clause-count g c =
    let p = c.args.program.now in
    omega (arith, c.in_ok-unused.ensures.count, rw c.decls.ensures at c.in_ok-similar.ensures.count, length-append (name_rows decided p.decls) (unused_rows decided p))
