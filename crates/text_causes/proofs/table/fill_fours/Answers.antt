use Rattle.std.proofs.Common.{◌-◌, ◌*◌, arith, length, refl, rules}
use Rattle.text_causes.specs.Fours.{four_text}
use Rattle.text_causes.proofs.NearLaws.{parts_more}
use Rattle.text_causes.proofs.table.fill_fours.Goals as goal

pub loop-number-preserved : goal.loop-number-preserved
loop-number-preserved c =
    let i = c.loop-number.number in
    parts_more (λ x. four_text x) 8 8 c.loop-number.texts c.fill_cells.new.text (8 * i) (length c.loop-number.texts - 8 * i) i refl (λ j low. omega (arith, low))
    (search rules) (search rules) c.loop-number.invariant c.fill_cells.ensures
