use Rattle.std.proofs.Common.{[], arith}
use Rattle.io_text.proofs.Lines.{line_prefix, line_more}
use Rattle.io_text.proofs.Sending.{sends_none, sends_err}
use Rattle.diagram_declarations.specs.Decls.{symbol_name}
use Rattle.text_cross_reference.specs.Uses.{place_rows}
use Rattle.io_text.proofs.Items.{rows_prefix}
use Rattle.text_cross_reference.proofs.Rows.{unused_behind, unused_there}
use Rattle.text_cross_reference.proofs.uses.add_symbol.Goals as goal

pub returns-in_err-rows-clause-sends : goal.returns-in_err-rows-clause-sends
returns-in_err-rows-clause-sends g c = sends_err _ _ _ _ _ _ c.from_residual.ensures.0
    (let name = symbol_name c.args.program.now.decls c.args.symbol in
    let cut = unused_behind name (place_rows c.args.program.now name c.args.symbol) in
    rows_prefix _ _ _ c.args.buffer.now c.args.buffer.now [] _ _ cut.0 cut.1 (sends_none _ c.args.buffer.now)
    (rw (c.symbol_name-name.ensures, c.decls.ensures) at c.in_err-rows.ensures.sends))

pub returns-in_err-row_line-clause-sends : goal.returns-in_err-row_line-clause-sends
returns-in_err-row_line-clause-sends g c = sends_err _ _ _ _ _ _ c.from_residual-in_err-row_line.ensures.0
    (let name = symbol_name c.args.program.now.decls c.args.symbol in
    let rows = place_rows c.args.program.now name c.args.symbol in
    let count = rw (c.symbol_name-name.ensures, c.decls.ensures) at c.in_ok-rows.ensures.count in
    line_prefix _ _ _ _ _ rows _ [] _ (unused_there name rows (omega (arith, count, c.if-rows-gt0.false)))
    (rw (c.symbol_name-name.ensures, c.decls.ensures) at c.in_ok-rows.ensures.sends) (rw (c.symbol_name-name.ensures, c.decls.ensures) at c.in_err-row_line.ensures))

pub returns-clause-sends : goal.returns-clause-sends
returns-clause-sends g c =
    let name = symbol_name c.args.program.now.decls c.args.symbol in
    let rows = place_rows c.args.program.now name c.args.symbol in
    let count = rw (c.symbol_name-name.ensures, c.decls.ensures) at c.in_ok-rows.ensures.count in
    line_more _ _ _ _ _ _ rows _ _ (unused_there name rows (omega (arith, count, c.if-rows-gt0.false)))
    (rw (c.symbol_name-name.ensures, c.decls.ensures) at c.in_ok-rows.ensures.sends) (rw (c.symbol_name-name.ensures, c.decls.ensures) at c.in_ok-row_line.ensures)
