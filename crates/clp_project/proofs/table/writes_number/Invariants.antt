use Rattle.std.proofs.Common.{◌≡◌, ◌&&◌, ◌||◌, length}
use Rattle.std.specs.List.{list_all, list_any}
use Rattle.clp_project.specs.Tables.{has_number, is_harmless, writes_number}
use Rattle.clp_project.proofs.table.writes_number.Given as goal

abbrev pub invariant-loop-expressions : goal.invariant-loop-expressions
invariant-loop-expressions l =
    writes_number l.initial.expressions l.number
    ≡ ((l.found || list_any (has_number l.number) l.expressions) && list_all (is_harmless l.number) l.expressions)

abbrev pub decreases-loop-expressions : goal.decreases-loop-expressions
decreases-loop-expressions l = length l.expressions
