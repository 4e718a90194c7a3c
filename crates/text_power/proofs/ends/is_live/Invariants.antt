use Rattle.std.specs.Prelude.{◌≡◌, ◌&&◌, ◌-◌}
use Rattle.diagram_program.specs.Program.{feeds}
use Rattle.text_power.specs.Ends.{any_below, any_past, is_live, of_rung}
use Rattle.text_power.proofs.ends.is_live.Given as goal

abbrev pub invariant-loop-from : goal.invariant-loop-from
invariant-loop-from l =
    l.found ≡ any_below (λ from. feeds l.rung.program.now l.rung.number l.row l.column from && any_past (of_rung is_live l.rung) l.rung.program.now l.rung.number from (l.column - 1)) l.from
