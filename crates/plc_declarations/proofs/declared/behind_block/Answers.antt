use Rattle.plc_declarations.specs.Declarations.{block}
use Rattle.plc_declarations.proofs.declared.behind_block.Goals as goal

pub returns-then-is_instance : goal.returns-then-is_instance
returns-then-is_instance c = λ derived.
    block c.in_ok-x.x c.in_ok-x.ensures.variables c.in_ok-x.ensures.instances (c.is_instance.ensures c.if-is_instance.true derived)
