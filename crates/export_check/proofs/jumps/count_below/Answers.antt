use Rattle.std.proofs.Common.{◌≡◌, Some, None, arith, refl}
use Rattle.diagram_program.specs.Program.{jump_of}
use Rattle.export_check.proofs.Counting.{counts_jump, counts_none, counts_return}
use Rattle.export_check.proofs.jumps.count_below.Goals as goal

pub returns-in_default : goal.returns-in_default
returns-in_default c =
    let none : jump_of c.args.program.now c.args.rung ≡ None = cc in
    counts_none c.args.jumps.now c.args.program.now.rungs c.args.rung c.args.number (jump_of c.args.program.now c.args.rung) none

pub returns-then-target-rungs : goal.returns-then-target-rungs
returns-then-target-rungs c =
    let is : jump_of c.args.program.now c.args.rung ≡ Some (c.in-Some.field-0-0, c.in-Some.field-0-1, c.in-Some.target) = cc in
    let last : c.in-Some.target ≡ c.args.program.now.rungs = cc in
    counts_return c.args.jumps.now c.args.program.now.rungs c.args.rung c.args.number (jump_of c.args.program.now c.args.rung) c.in-Some.field-0-0 c.in-Some.field-0-1 c.in-Some.target is last

pub returns : goal.returns
returns c =
    let is : jump_of c.args.program.now c.args.rung ≡ Some (c.in-Some.field-0-0, c.in-Some.field-0-1, c.in-Some.target) = cc in
    let other : c.in-Some.target ≡ c.args.program.now.rungs → ⊥ = λ e. omega (arith, e) in
    counts_jump c.args.jumps.now c.args.program.now.rungs c.args.rung c.args.number (jump_of c.args.program.now c.args.rung) c.in-Some.field-0-0 c.in-Some.field-0-1 c.in-Some.target is other
    (c.if-not-is_numbered.ensures.is refl)
