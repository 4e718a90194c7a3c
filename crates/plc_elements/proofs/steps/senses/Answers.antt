use Rattle.std.proofs.Common.{rules}
use Rattle.xml_parts.specs.Parts.{part_of}
use Rattle.plc_elements.specs.Body.{sense}
use Rattle.plc_elements.proofs.steps.senses.Goals as goal

pub returns : goal.returns
returns c = λ is done next before memory.
    sense (part_of c.args.body.document.now c.in-Some.part) before c.args.trigger.falling c.args.trigger.output memory c.args.trigger.left c.in-Some.ensures
    (search rules) (c.in_ok-is_sense.ensures is) (search rules)
