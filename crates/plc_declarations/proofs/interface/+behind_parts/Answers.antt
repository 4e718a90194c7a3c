use Rattle.std.proofs.Common.{rules, map}
use Rattle.xml_parts.specs.Parts.{part_of}
use Rattle.plc_declarations.specs.Declarations.{DeclareAll, DeclarePart}
use Rattle.plc_declarations.proofs.More.{all_more, of_some}
use Rattle.plc_declarations.proofs.interface.+behind_parts.Goals as goal

pub returns : goal.returns
returns t c =
    let text = c.args.texts.text.now in
    let d = c.args.texts.document.now in
    let one = of_some c.in_ok-rest.field-0 c.in-Some-2.rest
    (λ r. DeclarePart text (part_of d c.in-Some.part) c.args.names.variables.now r.variables.now c.args.names.instances.now r.instances.now)
    c.in-Some-2.is c.in_ok-rest.ensures in
    let others = of_some c.in_ok-last.field-0 c.in-Some-3.last
    (λ r. DeclareAll text (map (part_of d) c.in-Some.others.now) c.in-Some-2.rest.variables.now r.variables.now c.in-Some-2.rest.instances.now r.instances.now)
    c.in-Some-3.is c.in_ok-last.ensures in
    all_more text d c.args.parts.now c.in-Some.part c.in-Some.others.now _ c.in-Some-2.rest.variables.now _ _ c.in-Some-2.rest.instances.now _
    (search rules) one others
