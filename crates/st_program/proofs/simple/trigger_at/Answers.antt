use Rattle.std.proofs.Common.{◌≡◌, false}
use Rattle.st_program.specs.Notes.{triggers, has_trigger}
use Rattle.st_program.proofs.Simply.{trigger_called}
use Rattle.st_program.proofs.simple.trigger_at.Goals as goal

pub returns-in-Ok-clause-simple : goal.returns-in-Ok-clause-simple
returns-in-Ok-clause-simple c =
    let fresh : has_trigger c.args.number c.args.notes.now.items ≡ false = cc in
    let counts : c.triggers-memory.result ≡ triggers c.args.notes.now.items = cc in
    trigger_called _ _ _ _ _ _ _ _ _ _ _ _ c.requires c.in_ok-given.ensures.call c.in_ok-first.ensures.first c.in_ok-clock.ensures fresh counts
    c.in-Ok.ensures.1 c.in-Ok.ensures.2
