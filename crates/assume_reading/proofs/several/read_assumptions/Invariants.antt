use Rattle.std.proofs.Common.{length, map, string_bytes}
use Rattle.assume_reading.proofs.Joining.{SoFar}
use Rattle.assume_reading.proofs.several.read_assumptions.Given as goal

abbrev pub invariant-loop-text : goal.invariant-loop-text
invariant-loop-text l = SoFar l.decls (map string_bytes l.texts) (map string_bytes l.rest) l.all

abbrev pub decreases-loop-text : goal.decreases-loop-text
decreases-loop-text l = length l.rest
