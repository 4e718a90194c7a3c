use Rattle.std.proofs.Common.{◌≡◌, ◌∙◌, ◌+◌, ◌-◌, ◌*◌, ◌%◌, ◌==◌, ap, arith, sym}
use Rattle.draw_power.specs.Power.{has_row}
use Rattle.export_power.proofs.Rows.{same_rows}
use Rattle.export_power.proofs.ends.place_of.Goals as goal

pub returns-then-eq : goal.returns-then-eq
returns-then-eq c =
    let row : (6 * (c.args.ends.column - 1) + c.loop-row.row) % 6 ≡ c.loop-row.row = omega arith in
    record {
      within = omega arith;
      next = omega arith;
      only = λ q less.
          ap (λ rows. has_row rows q) (same_rows _ _ (sym c.eq.ensures ∙ c.if-eq.true)) ∙ c.only.ensures q less
          ∙ ap (λ n. q == n) (sym row);
    }
