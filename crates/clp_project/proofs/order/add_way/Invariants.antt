use Rattle.std.proofs.Common.{◌≡◌, ◌++◌, ◌-◌, length, List, Some}
use Rattle.clp_project.specs.Order.{way}
use Rattle.clp_project.specs.Rungs.{joined}
use Rattle.clp_project.specs.declared.order.Placed.{Placed}
use Rattle.clp_project.proofs.order.add_way.Given as goal

abbrev pub invariant-loop-count : goal.invariant-loop-count
invariant-loop-count l =
    (mine : List Placed) × (l.placed.items ≡ l.fn.placed.items ++ mine)
    × (way l.section.number l.section.last l.rungs (length l.rungs) l.section.first
    ≡ joined (Some mine) (way l.section.number l.section.last l.rungs (length l.rungs - l._count) l.number))
