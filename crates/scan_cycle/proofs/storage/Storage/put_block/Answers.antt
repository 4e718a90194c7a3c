use Rattle.std.proofs.Common.{◌∙◌, ap₂, sym, slice_set}
use Rattle.std.proofs.lemmas.List.{map-set}
use Rattle.scan_signals.specs.Blocks.{q_of}
use Rattle.scan_cycle.proofs.storage.Storage.put_block.Goals as goal

pub invariant_of-self : goal.invariant_of-self
invariant_of-self c =
    ap₂ (λ xs x. slice_set xs c.args.inst x) c.self.invariant c.q.ensures
    ∙ sym (map-set q_of c.self.inside.blocks.items c.args.inst c.args.stored)
