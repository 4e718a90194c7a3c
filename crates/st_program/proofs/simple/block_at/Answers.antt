use Rattle.std.proofs.Common.{◌≡◌, sym, false}
use Rattle.st_program.specs.Notes.{has_block}
use Rattle.st_program.proofs.Simply.{block_called}
use Rattle.st_program.proofs.simple.block_at.Goals as goal

pub returns-in-Ok-clause-simple : goal.returns-in-Ok-clause-simple
returns-in-Ok-clause-simple c =
    let fresh : has_block c.args.block.number c.args.notes.now.items ≡ false = cc in
    block_called _ _ _ _ _ _ _ _ _ _ _ _ _ c.requires c.in_ok-given.ensures.call c.in_ok-first.ensures.first c.in_ok-first.ensures.second (sym c.in-Some.ensures) fresh
    c.in-Ok.ensures.1 c.in-Ok.ensures.2
