use Rattle.std.proofs.Common.{◌≡◌, ℕ, ◌+◌, ◌*◌, ◌/◌, ◌%◌, ◌<◌, ◌==◌, Option, Some, arith, sym, ap, ap₂, ◌∙◌, if◌then◌else◌}
use Rattle.diagram_program.specs.declared.geometry.TheConstants.{ROWS}
use Rattle.diagram_program.specs.declared.gates.TheConstants.{ON}
use Rattle.diagram_program.specs.declared.gates.Exit.{Exit}
use Rattle.diagram_program.specs.Program.{Drawing}
use Rattle.diagram_program.specs.Gates.{last_feeder, left_of, exit_by}
use Rattle.diagram_program.specs.Sheet.{drawing_of}
use Rattle.diagram_program.proofs.JumpLaws.{jump_placed}
use Rattle.diagram_program.proofs.gates.exit_by.Goals as goal

left_there : (d : Drawing) (rung row column : ℕ) → row < ROWS → (if column == 0 then ON else last_feeder d rung row column ROWS) ≡ left_of d rung (ROWS * column + row)
left_there d rung row column h =
    let there : column ≡ (ROWS * column + row) / ROWS = omega arith in
    let same : row ≡ (ROWS * column + row) % ROWS = omega arith in
    ap₂ (λ c r. if c == 0 then ON else last_feeder d rung r c ROWS) there same

abbrev exit : ℕ → ℕ → Option Exit
exit target left = Some (record { left = left; target = target })

pub invariant_of-feeder : goal.invariant_of-feeder
invariant_of-feeder c =
    let placed = jump_placed (drawing_of c.args.sheet) c.args.rung (c.in-Some.row, c.in-Some.column, c.in-Some.target) (sym c.requires.jump ∙ c.in-Some.is) in
    record { few = c.requires.rungs; rows = placed.0; columns = placed.1 }

pub returns-in-Some : goal.returns-in-Some
returns-in-Some c =
    let d = drawing_of c.args.sheet in
    ap (exit c.in-Some.target) (c.feeder.ensures ∙ left_there d c.args.rung c.in-Some.row c.in-Some.column (jump_placed d c.args.rung (c.in-Some.row, c.in-Some.column, c.in-Some.target) (sym c.requires.jump ∙ c.in-Some.is)).0)
    ∙ ap (exit_by d c.args.rung) (sym c.in-Some.is ∙ c.requires.jump)
