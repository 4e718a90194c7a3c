use Rattle.std.proofs.Common.{length}
use Rattle.st_program.specs.Symbols.{table}
use Rattle.st_program.proofs.Itemized.{SoFar}
use Rattle.st_program.proofs.item.items_of.Given as goal

abbrev pub invariant-loop-word : goal.invariant-loop-word
invariant-loop-word l = SoFar l.text (table l.symbols) l.may_compare l.words l.rest l.items.items

abbrev pub decreases-loop-word : goal.decreases-loop-word
decreases-loop-word l = length l.rest
