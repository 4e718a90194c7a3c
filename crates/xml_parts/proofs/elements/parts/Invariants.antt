use Rattle.std.proofs.Common.{◌≡◌, ◌≤◌, ◌++◌, map}
use Rattle.xml_parts.specs.Parts.{items_from, part_of, parts_in, parts_within}
use Rattle.xml_parts.proofs.elements.parts.Given as goal

abbrev pub invariant-loop-next : goal.invariant-loop-next
invariant-loop-next l =
    (l.depth ≤ l.next) ×
    (parts_in (items_from l.document l.fn.place) ≡ map (part_of l.document) l.parts.items ++ parts_within l.depth (items_from l.document l.next))
