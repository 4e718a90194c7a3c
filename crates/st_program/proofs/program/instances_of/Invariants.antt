use Rattle.std.proofs.Common.{◌≡◌, ◌≤◌, ◌-◌, ◌++◌, length}
use Rattle.st_program.specs.Programs.{instances_from}
use Rattle.st_program.proofs.program.instances_of.Given as goal

abbrev pub invariant-loop-block : goal.invariant-loop-block
invariant-loop-block l = record {
  so_far : l.instances.items ++ instances_from l.notes (length l.blocks - length l.rest) l.rest ≡ instances_from l.notes 0 l.blocks;
  shorter : length l.rest ≤ length l.blocks;
}

abbrev pub decreases-loop-block : goal.decreases-loop-block
decreases-loop-block l = length l.rest
