use Rattle.std.proofs.Common.{rules}
use Rattle.xml_parts.specs.Parts.{part_of}
use Rattle.plc_elements.specs.Body.{acts}
use Rattle.plc_elements.proofs.steps.acting.Goals as goal

pub returns : goal.returns
returns c = λ numbered done next.
    let key = (rw c.in-Some-2.is at c.in_ok-key.ensures.key) numbered c.in-Some.ensures in
    let behind = rw c.in-Some-2.is at c.in_ok-key.ensures.behind in
    acts (part_of c.args.body.document.now c.in-Some.part) c.args.stage.before c.in-Some-2.key c.args.effect key behind (search rules) (search rules)
