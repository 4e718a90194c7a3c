use Rattle.diff_rungs.proofs.Lists.{spoiled_at}
use Rattle.diff_rungs.proofs.marks.spoil_cell.Goals as goal

pub returns : goal.returns
returns c = record {
  inputs = spoiled_at c.args.side _ _ _ _ _ _ c.var_in.ensures c.inputs.ensures c.spoil.ensures.spoiled;
  variables = spoiled_at c.args.side _ _ _ _ _ _ c.var_in-2.ensures c.variables.ensures c.spoil-2.ensures.spoiled;
  instances = spoiled_at c.args.side _ _ _ _ _ _ c.block.ensures c.instances.ensures c.spoil-3.ensures.spoiled;
  memories = spoiled_at c.args.side _ _ _ _ _ _ c.memory_in.ensures c.memories.ensures c.spoil-4.ensures.spoiled;
  many = record { variables = c.spoil-2.ensures.many; instances = c.spoil-3.ensures.many; memories = c.spoil-4.ensures.many };
}
