use Rattle.std.specs.Prelude.{◌≤◌, drop}
use Rattle.csv.specs.Records.{fields_of}
use Rattle.cli_names.specs.Advice.{names_advice}
use Rattle.cli_names.proofs.Telling.{GoesOn}
use Rattle.cli_names.proofs.stimulus.tell_header.Given as goal

abbrev pub invariant-loop-number : goal.invariant-loop-number
invariant-loop-number g l =
    (1 ≤ l.number)
    × GoesOn l.decls (names_advice l.decls (drop 1 (fields_of l.header))) (g.W.Sink.log l.fn.writer) (names_advice l.decls (drop l.number (fields_of l.header)))
    (g.W.Sink.log l.writer)
