use Rattle.io_text.proofs.Sending.{puts_err}
use Rattle.assume_always.proofs.Lines.{line_cut, lines_next}
use Rattle.assume_always.proofs.writing.+put_always.Goals as goal

pub returns-in_err-put_line : goal.returns-in_err-put_line
returns-in_err-put_line g t c =
    puts_err _ _ _ _ c.from_residual.ensures.0 (line_cut _ _ c.args.numbers.now c.in-Some.behind.now c.in-Some.number c.in-Some.ensures.first c.in_err-put_line.ensures)

pub returns : goal.returns
returns g t c =
    lines_next _ _ _ c.args.numbers.now c.in-Some.behind.now c.in-Some.number c.put_always.result c.in-Some.ensures.first c.in_ok-put_line.ensures c.put_always.ensures
