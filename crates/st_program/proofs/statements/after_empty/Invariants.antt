use Rattle.std.proofs.Common.{List, Option, ◌≤◌, length}
use Rattle.st_integers.specs.declared.value.IntegerValue.{IntegerValue}
use Rattle.st_statements.specs.declared.statement.StatementList.{StatementList}
use Rattle.st_program.specs.declared.item.Item.{Item}
use Rattle.st_program.specs.declared.notes.Note.{Note}
use Rattle.st_program.specs.Statements.{Body, Reads}
use Rattle.st_program.proofs.statements.after_empty.Given as goal

abbrev pub invariant-loop-behind : goal.invariant-loop-behind
invariant-loop-behind l = record {
  empty : (values : List (Option IntegerValue)) (rest : List Item) (before after : List Note) (all : StatementList)
      → Reads values Body l.rest rest before after all → Reads values Body l.items rest before after all;
  shorter : length l.rest ≤ length l.items;
}

abbrev pub decreases-loop-behind : goal.decreases-loop-behind
decreases-loop-behind l = length l.rest
