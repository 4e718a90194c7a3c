use Rattle.std.proofs.Common.{◌≡◌, ◌*◌, ◌-◌, ◌++◌, take}
use Rattle.text_causes.proofs.CellLaws.{shown}
use Rattle.text_causes.proofs.table.fill_row.Given as goal

abbrev pub invariant-loop-index : goal.invariant-loop-index
invariant-loop-index l = shown l.listed l.group ≡ take (8 * l.index) l.text ++ shown (l.listed - 4 * l.index) l.group
