use Rattle.std.proofs.Common.{◌≡◌, ◌*◌, ◌-◌, ◌++◌, take}
use Rattle.text_causes.proofs.CellLaws.{shown}
use Rattle.text_causes.proofs.table.fill_cells.Given as goal

abbrev pub invariant-loop-index : goal.invariant-loop-index
invariant-loop-index l = shown l.count l.group ≡ take (2 * l.index) l.text ++ shown (l.count - l.index) l.group
