use Rattle.std.proofs.Common.{rules}
use Rattle.xml_parts.specs.Parts.{part_of}
use Rattle.plc_elements.specs.Body.{coil}
use Rattle.plc_elements.proofs.steps.writing.Goals as goal

pub returns : goal.returns
returns c = λ firsts done stage behind next.
    let key = (rw c.in-Some.is at c.in_ok-key.ensures.key) stage.numbered c.in-Some-Some.ensures in
    let later = rw c.in-Some.is at c.in_ok-key.ensures.behind in
    let trigger = c.in-Some-Some.ensures' in
    let last = rw trigger.1.2 at stage.last in
    let by_edge = c.in_ok-is_edge_coil.ensures (search rules) in
    coil (part_of c.args.body.document.now c.in-Some-Some.part) c.args.stage.before c.in-Some.key c.in-Some-Some.trigger.falling
    c.in-Some-Some.trigger.output c.args.variable c.args.left key later (search rules) (rw trigger.0 at by_edge)
    (trigger.1.0, trigger.1.1, last.0, last.1)
