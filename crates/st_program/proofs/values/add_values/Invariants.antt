use Rattle.std.proofs.Common.{◌≡◌, length}
use Rattle.st_program.specs.Items.{values_in}
use Rattle.st_program.specs.Symbols.{table}
use Rattle.st_program.proofs.Valued.{Valued}
use Rattle.st_program.proofs.values.add_values.Given as goal

abbrev pub invariant-loop-after : goal.invariant-loop-after
invariant-loop-after l = record {
  valued : Valued l.text l.words l.rest (table l.initial.symbols) (table l.symbols);
  values : l.values.items ≡ values_in (table l.symbols);
}

abbrev pub decreases-loop-after : goal.decreases-loop-after
decreases-loop-after l = length l.rest
