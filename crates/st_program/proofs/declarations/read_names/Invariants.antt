use Rattle.std.proofs.Common.{List, ◌++◌, ◌≤◌, length}
use Rattle.st_words.specs.declared.word.Word.{Word}
use Rattle.st_program.specs.Declarations.{Names}
use Rattle.st_program.proofs.declarations.read_names.Given as goal

abbrev pub invariant-loop-name : goal.invariant-loop-name
invariant-loop-name l = record {
  names : (rest names : List Word) → Names l.text l.rest rest names → Names l.text l.words rest (l.names.items ++ names);
  shorter : length l.rest ≤ length l.words;
}

abbrev pub decreases-loop-name : goal.decreases-loop-name
decreases-loop-name l = length l.rest
