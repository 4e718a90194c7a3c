use Rattle.std.proofs.Common.{◌≡◌, ◌↔◌, Some, IsTrue, IsSomeAnd, false, slice_index_or, subst, sym}
use Rattle.diagram_program.specs.Program.{jump_of}
use Rattle.diagram_program.proofs.JumpLaws.{jump_placed}
use Rattle.text_warnings.specs.Ways.{IsWired}
use Rattle.text_warnings.proofs.wired.always_leaves.Goals as goal

pub wired-requires-clause-columns : goal.wired-requires-clause-columns
wired-requires-clause-columns c = (jump_placed c.args.program.now c.args.rung (c.in-Some.row, c.in-Some.column, c.in-Some._target) cc).1

pub bounds-wired-row : goal.bounds-wired-row
bounds-wired-row c = (jump_placed c.args.program.now c.args.rung (c.in-Some.row, c.in-Some.column, c.in-Some._target) cc).0

pub returns-in-Some : goal.returns-in-Some
returns-in-Some c =
    let there : jump_of c.args.program.now c.args.rung ≡ Some (c.in-Some.row, c.in-Some.column, c.in-Some._target) = cc in
    subst (λ o. IsTrue (slice_index_or c.wired.result c.in-Some.row false) ↔ IsSomeAnd o (λ jump. IsWired c.args.program.now c.args.rung jump.1 jump.0))
    (sym there) (c.wired.ensures c.in-Some.row (jump_placed _ _ _ there).0)
