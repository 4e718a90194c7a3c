use Rattle.std.proofs.Common.{◌≡◌, ℕ, List, ◌++◌, length}
use Rattle.io_text.specs.Log.{PutsAll}
use Rattle.io_text.proofs.sink.put.Given as goal

-- a prefix of the text was written, and the rest is left
abbrev pub invariant-loop-rest : goal.invariant-loop-rest
invariant-loop-rest g l = (front : List ℕ) × (l.text ≡ front ++ l.rest) × PutsAll (g.W.Sink.log l.fn.writer) (g.W.Sink.log l.writer) front

abbrev pub decreases-loop-rest : goal.decreases-loop-rest
decreases-loop-rest g l = length l.rest
