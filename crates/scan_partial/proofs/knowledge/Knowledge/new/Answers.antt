use Rattle.std.proofs.Common.{◌∙◌, ap}
use Rattle.scan_partial.proofs.Sure.{fresh_sure}
use Rattle.scan_partial.proofs.knowledge.Knowledge.new.Goals as goal

pub invariant_of-result : goal.invariant_of-result
invariant_of-result g c =
    fresh_sure g.S.Operations.algebra g.S.Operations.value g.met.S.Signal.lattice g.B.Keep.keeping g.B.Keep.kept g.met.B.Keep.keeps _ _ _ c.known-off.result c.stored-unused.result
    c.known-off.ensures (c.stored-unused.ensures ∙ ap g.B.Keep.keeping.stored c.new.ensures) c.in_ok-filled.ensures.each c.in_ok-filled-2.ensures.each c.in_ok-filled-3.ensures.each
