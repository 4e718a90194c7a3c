use Rattle.std.proofs.Common.{sym}
use Rattle.plc_import.proofs.import.drawing_of.Goals as goal

pub returns-then-branch : goal.returns-then-branch
returns-then-branch c = record {
  statements = c.deref.result.now;
  program = c.in-Ok.drawn.program;
  read = c.in-Ok.ensures.read;
  does = rw c.deref.ensures.value (rw (sym c.deref-2.ensures.value) (c.in_ok-does_unit.ensures c.if-branch.true));
  drawn = c.in-Ok.ensures.drawn;
}
