use Rattle.std.proofs.Common.{◌+◌, ◌≤◌, length, arith}
use Rattle.export_check.proofs.Answering.{answers_on}
use Rattle.export_check.proofs.Whole.{whole}
use Rattle.export_check.proofs.export.is_export.Goals as goal

pub returns : goal.returns
returns c =
    let jumps = c.deref.result.now in
    let room : c.in-Some.first + length c.deref.result.now ≤ c.args.variables = omega (arith, c.in-Some.ensures) in
    answers_on c.is_rest.result _ _ c.is_rest.ensures
    (λ is rest yes. whole c.args.program.now c.args.variables c.in-Some.first jumps c.in-Some.ensures.0 room c.args.list.now c.in-Some-behind_resets.rest.now
    c.scan_follows_jumps.ensures c.in-Some-behind_resets.ensures (rest yes))
