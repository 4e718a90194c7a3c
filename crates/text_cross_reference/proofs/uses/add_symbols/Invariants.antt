use Rattle.std.specs.Prelude.{◌≡◌, ◌≤◌, ◌*◌, length, take}
use Rattle.std.specs.List.{flat_map}
use Rattle.diagram_program.specs.declared.geometry.TheConstants.{PLACES, RUNGS}
use Rattle.io_text.specs.Text.{lines_text}
use Rattle.io_text.specs.Buffer.{SendsAll}
use Rattle.text_cross_reference.specs.Uses.{symbol_rows, symbols_of}
use Rattle.text_cross_reference.proofs.uses.add_symbols.Given as goal

abbrev pub invariant-loop-number : goal.invariant-loop-number
invariant-loop-number g l =
    SendsAll (g.W.Sink.log l.fn.writer) (g.W.Sink.log l.writer) l.fn.buffer l.buffer (lines_text (flat_map (symbol_rows l.program) (take l.number (symbols_of l.program.decls))))
    × (l.total ≡ length (flat_map (symbol_rows l.program) (take l.number (symbols_of l.program.decls))))
    × (l.total ≤ l.number * (PLACES * RUNGS))
