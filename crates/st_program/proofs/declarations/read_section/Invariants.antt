use Rattle.std.proofs.Common.{List, ◌≤◌, length}
use Rattle.st_words.specs.declared.word.Word.{Word}
use Rattle.st_program.specs.Declarations.{Declarations}
use Rattle.st_program.specs.Symbols.{Table, table}
use Rattle.st_program.proofs.declarations.read_section.Given as goal

abbrev pub invariant-loop-after : goal.invariant-loop-after
invariant-loop-after l = record {
  declarations : (rest : List Word) (t : Table) → Declarations l.text l.section l.rest rest (table l.symbols) t
      → Declarations l.text l.section l.words rest (table l.initial.symbols) t;
  shorter : length l.rest ≤ length l.words;
}

abbrev pub decreases-loop-after : goal.decreases-loop-after
decreases-loop-after l = length l.rest
