use Rattle.std.proofs.Common.{rules}
use Rattle.xml_parts.specs.Parts.{part_of}
use Rattle.plc_declarations.proofs.types.type_of.Goals as goal

pub returns-then-is_named : goal.returns-then-is_named
returns-then-is_named c = (part_of c.args.document.now c.in-Some.part, search rules, search rules)

pub returns-in-Some-attribute : goal.returns-in-Some-attribute
returns-in-Some-attribute c = (part_of c.args.document.now c.in-Some.part, search rules, search rules, search rules)
