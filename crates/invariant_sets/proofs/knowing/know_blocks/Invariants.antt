use Rattle.std.proofs.Common.{◌≡◌, length, map, take}
use Rattle.invariant_cases.specs.declared.answer.Answer.TheVariants.{Open}
use Rattle.invariant_cases.specs.declared.outcome.Outcome.TheVariants.{OfKind}
use Rattle.invariant_sets.proofs.knowing.know_blocks.Given as goal

abbrev pub invariant-loop-inst : goal.invariant-loop-inst
invariant-loop-inst l = record {
  known : l.known ≡ record l.fn.known { blocks = l.known.blocks };
  many : length l.known.blocks ≡ length l.instances;
  done : take l.inst l.known.blocks ≡ map (λ t. OfKind t Open) (take l.inst l.instances);
}
