use Rattle.std.proofs.Common.{sym}
use Rattle.st_program.specs.Declarations.{rising, falling, block}
use Rattle.st_program.proofs.declarations.read_block_type.Goals as goal

pub returns-in-Some-clause-typed : goal.returns-in-Some-clause-typed
returns-in-Some-clause-typed c = rw c.trigger.ensures (rising _ _ c.in-Some.ensures.marked)

pub returns-in-Some-behind-clause-typed : goal.returns-in-Some-behind-clause-typed
returns-in-Some-behind-clause-typed c = rw c.trigger-in-Some-behind.ensures (falling _ _ c.in-Some-behind.ensures.marked)

pub returns-clause-typed : goal.returns-clause-typed
returns-clause-typed c =
    block _ _ _ _ _ _ c.in-Some-first_mark.ensures.marked (sym c.in-Some-kind_of.ensures) c.in_ok-preset.ensures.preset
