use Rattle.io_text.specs.Buffer.{SendsAll}
use Rattle.diagram_declarations.specs.declared.decls.Symbol.TheVariants.{Var}
use Rattle.text_power.specs.Show.{each}
use Rattle.text_vcd.specs.Lines.{line_of}
use Rattle.text_vcd.proofs.lines.add_var_lines.Given as goal

abbrev pub invariant-loop-number : goal.invariant-loop-number
invariant-loop-number g l =
    SendsAll (g.W.Sink.log l.fn.writer) (g.W.Sink.log l.writer) l.fn.buffer l.buffer (each (λ n. line_of l.decls l.lines (Var n)) l.number)
