use Rattle.std.proofs.Common.{◌++◌, take}
use Rattle.std.specs.List.{flat_map}
use Rattle.io_text.specs.Buffer.{SendsAll}
use Rattle.cli_usage.specs.Rules.{term_text}
use Rattle.cli_usage.proofs.telling.add_others.Given as goal

abbrev pub invariant-loop-term : goal.invariant-loop-term
invariant-loop-term g l =
    SendsAll (g.W.Sink.log l.fn.writer) (g.W.Sink.log l.writer) l.fn.buffer l.buffer (flat_map (λ t. l.word ++ term_text t) (take l.term-index l.terms))
