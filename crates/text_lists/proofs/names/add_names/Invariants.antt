use Rattle.std.specs.Prelude.{◌≡◌, ◌≤◌, ◌*◌, length, take}
use Rattle.std.specs.List.{flat_map}
use Rattle.diagram_program.specs.declared.geometry.TheConstants.{PLACES, RUNGS}
use Rattle.io_text.specs.Text.{lines_text}
use Rattle.io_text.specs.Buffer.{SendsAll}
use Rattle.text_cross_reference.specs.Uses.{symbols_of}
use Rattle.text_lists.specs.SteadyText.{claimed_rows}
use Rattle.text_lists.proofs.names.add_names.Given as goal

abbrev pub invariant-loop-number : goal.invariant-loop-number
invariant-loop-number g l =
    SendsAll (g.W.Sink.log l.fn.writer) (g.W.Sink.log l.writer) l.fn.buffer l.buffer (lines_text (flat_map (claimed_rows l.program l.set l.value) (take l.number (symbols_of l.program.decls))))
    × (l.total ≡ length (flat_map (claimed_rows l.program l.set l.value) (take l.number (symbols_of l.program.decls))))
    × (l.total ≤ l.number * (PLACES * RUNGS))
