use Rattle.std.specs.Prelude.{◌≡◌, ◌≤◌}
use Rattle.io_text.specs.Buffer.{SendsAll}
use Rattle.text_power.specs.Show.{each}
use Rattle.text_drawing.specs.Notes.{noted_before, numbered_note}
use Rattle.text_drawing.proofs.notes.add_var_notes.Given as goal

abbrev pub invariant-loop-number : goal.invariant-loop-number
invariant-loop-number g l = record {
  sent : SendsAll (g.W.Sink.log l.fn.writer) (g.W.Sink.log l.writer) l.fn.buffer l.buffer (each (numbered_note l.gap l.inputs l.picture.program.now.decls l.picture.after.now) l.number);
  many : l.many ≡ noted_before l.inputs l.picture.program.now.decls.vars l.number;
  few : l.many ≤ l.number;
}
