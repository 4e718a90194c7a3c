use Rattle.std.proofs.Common.{List, length}
use Rattle.st_words.specs.declared.word.Word.{Word}
use Rattle.st_program.specs.Declarations.{Sections}
use Rattle.st_program.specs.Symbols.{Table, table}
use Rattle.st_program.proofs.declarations.read_sections.Given as goal

abbrev pub invariant-loop-section : goal.invariant-loop-section
invariant-loop-section l = (rest : List Word) (t : Table) → Sections l.text l.rest rest (table l.symbols) t → Sections l.text l.words rest (table l.initial.symbols) t

abbrev pub decreases-loop-section : goal.decreases-loop-section
decreases-loop-section l = length l.rest
