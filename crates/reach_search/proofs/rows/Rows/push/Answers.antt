-- The row is the last one.
use Rattle.std.proofs.Common.{◌≡◌, suc, length, arith, ap, sym, ◌∙◌}
use Rattle.reach_search.proofs.RowLaws.{rows_of-more}
use Rattle.reach_search.proofs.rows.Rows.push.Goals as goal

pub returns-clause-rows : goal.returns-clause-rows
returns-clause-rows g c =
    let one : c.in-Some.count ≡ suc c.self.inside.count = omega (arith, c.in-Some.ensures) in
    let long : length c.args.row.now ≡ c.self.inside.width = c.requires ∙ sym (ap (λ t. t.width) c.self.view_is) in
    rw (c.in_ok-extend_from_slice.ensures.items, one, ← c.self.view_is)
    (rows_of-more c.self.inside.width c.self.inside.count c.self.inside.items.items c.args.row.now c.self.invariant long)
