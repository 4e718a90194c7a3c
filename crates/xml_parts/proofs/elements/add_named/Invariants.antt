use Rattle.std.proofs.Common.{◌≡◌, ◌++◌, drop, map}
use Rattle.xml_parts.specs.Parts.{items_from, part_of, with_name}
use Rattle.xml_parts.proofs.elements.add_named.Given as goal

abbrev pub invariant-loop-part : goal.invariant-loop-part
invariant-loop-part l =
    map (items_from l.document) l.initial.places.items ++ with_name l.name (map (part_of l.document) l.parts)
    ≡ map (items_from l.document) l.places.items ++ with_name l.name (map (part_of l.document) (drop l.part-index l.parts))
