use Rattle.std.proofs.Common.{◌≡◌, length}
use Rattle.st_program.specs.Programs.{preset_in}
use Rattle.st_program.proofs.program.preset_in.Given as goal

abbrev pub invariant-loop-rest : goal.invariant-loop-rest
invariant-loop-rest l = preset_in l.number l.declared l.rest ≡ preset_in l.number l.declared l.notes

abbrev pub decreases-loop-rest : goal.decreases-loop-rest
decreases-loop-rest l = length l.rest
