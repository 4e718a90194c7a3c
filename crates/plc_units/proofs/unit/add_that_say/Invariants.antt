use Rattle.std.proofs.Common.{◌≡◌, ◌++◌, drop, map}
use Rattle.xml_parts.specs.Parts.{items_from}
use Rattle.plc_units.specs.Projects.{that_say}
use Rattle.plc_units.proofs.unit.add_that_say.Given as goal

abbrev pub invariant-loop-pou : goal.invariant-loop-pou
invariant-loop-pou l =
    map (items_from l.document) l.initial.found.items ++ that_say l.name l.value (map (items_from l.document) l.pous)
    ≡ map (items_from l.document) l.found.items ++ that_say l.name l.value (map (items_from l.document) (drop l.pou-index l.pous))
