use Rattle.std.proofs.Common.{rules}
use Rattle.plc_elements.specs.Body.{watch}
use Rattle.plc_elements.proofs.steps.watches.Goals as goal

pub returns : goal.returns
returns c = λ due done ordered within before memory.
    let watched = c.in_ok-is_watched.ensures (search rules) in
    watch watched.0 before c.args.trigger.falling c.args.trigger.output memory c.args.trigger.left watched.1 watched.2 watched.3
    (c.is_due.ensures due done ordered within)
