use Rattle.plc_declarations.specs.Declarations.{trigger}
use Rattle.plc_declarations.proofs.declared.behind_trigger.Goals as goal

pub returns-then-is_trigger : goal.returns-then-is_trigger
returns-then-is_trigger c = λ derived.
    trigger c.in_ok-x.x c.in_ok-x.ensures.variables c.in_ok-x.ensures.instances (c.is_trigger.ensures c.if-is_trigger.true derived)
