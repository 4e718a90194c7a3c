use Rattle.std.specs.Prelude.{take}
use Rattle.diagram_declarations.specs.Decls.{is_input}
use Rattle.io_text.specs.Buffer.{SendsAll}
use Rattle.text_runs.proofs.Chosen.{chosen}
use Rattle.text_runs.proofs.stimulus.add_names.Given as goal

abbrev pub invariant-loop-number : goal.invariant-loop-number
invariant-loop-number g l =
    SendsAll (g.W.Sink.log l.fn.writer) (g.W.Sink.log l.writer) l.fn.buffer l.buffer (chosen is_input (λ v. v.name) (take l.number l.vars))
