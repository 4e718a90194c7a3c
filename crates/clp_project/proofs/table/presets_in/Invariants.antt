use Rattle.std.proofs.Common.{◌≡◌, length, map, Some}
use Rattle.clp_project.specs.Rungs.{joined}
use Rattle.clp_project.specs.Tables.{presets_in}
use Rattle.clp_project.proofs.table.presets_in.Given as goal

abbrev pub invariant-loop-lines : goal.invariant-loop-lines
invariant-loop-lines l = presets_in (map (λ x. x.now) l.initial.lines) ≡ joined (Some l.presets.items) (presets_in (map (λ x. x.now) l.lines))

abbrev pub decreases-loop-lines : goal.decreases-loop-lines
decreases-loop-lines l = length l.lines
