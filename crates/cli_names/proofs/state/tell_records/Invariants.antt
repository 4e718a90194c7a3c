use Rattle.std.specs.Prelude.{◌+◌, List, drop}
use Rattle.diagram_declarations.specs.Decls.{names_of}
use Rattle.io_text.specs.Left.{Fields, IsPlain, Left}
use Rattle.cli_names.specs.Advice.{records_advice}
use Rattle.cli_names.proofs.Telling.{GoesOn}
use Rattle.cli_names.proofs.state.tell_records.Given as goal

abbrev pub invariant-loop-number : goal.invariant-loop-number
invariant-loop-number g l =
    IsPlain l.records
    × ((rows : List Fields) → Left l.fn.records rows → (xs : List Fields) × Left l.records xs
    × GoesOn l.decls (records_advice 3 (names_of l.decls) rows) (g.W.Sink.log l.fn.writer)
    (records_advice (l.number + 3) (drop l.number (names_of l.decls)) xs) (g.W.Sink.log l.writer))
