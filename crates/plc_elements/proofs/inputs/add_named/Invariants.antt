use Rattle.std.proofs.Common.{◌≡◌, ◌++◌, drop, map}
use Rattle.xml_parts.specs.Parts.{items_from}
use Rattle.plc_elements.specs.Effects.{inputs_named}
use Rattle.plc_elements.proofs.inputs.add_named.Given as goal

abbrev pub invariant-loop-input : goal.invariant-loop-input
invariant-loop-input l =
    map (items_from l.document) l.initial.found.items ++ inputs_named l.callee l.role (map (items_from l.document) l.inputs)
    ≡ map (items_from l.document) l.found.items ++ inputs_named l.callee l.role (map (items_from l.document) (drop l.input-index l.inputs))
