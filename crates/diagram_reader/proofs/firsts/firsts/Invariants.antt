use Rattle.std.proofs.Common.{length}
use Rattle.diagram_page.specs.Tables.{AreFirsts, HasBlock}
use Rattle.diagram_reader.proofs.firsts.firsts.Given as goal

abbrev pub invariant-loop-n : goal.invariant-loop-n
invariant-loop-n l = AreFirsts (HasBlock l.decls l.forms l.overs) (length l.decls.instances) l.n l.firsts.items
