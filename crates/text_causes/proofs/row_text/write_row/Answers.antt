use Rattle.std.proofs.Common.{◌-◌, arith, drop, length, length-drop, rules}
use Rattle.std.proofs.lemmas.List.{length-take}
use Rattle.std.proofs.lemmas.Fmt.{length-decimal-le}
use Rattle.text_causes.proofs.RowLaws.{digits_fit, row_is}
use Rattle.text_causes.proofs.row_text.write_row.Goals as goal

pub write_digits-requires : goal.write_digits-requires
write_digits-requires c = (search (rules, length-decimal-le 20), digits_fit c.args.text.now c.fill_end.new.text _ _ (omega (arith, c.requires.room)))

pub returns-clause-row : goal.returns-clause-row
returns-clause-row c =
    row_is c.args.text.now c.fill_end.new.text _ _ _ _ _ _ _ _ (omega (arith, c.requires.room, c.requires.few))
    (omega (arith, c.requires.room, c.requires.few, c.fill_end.auto.text, length-take (length c.args.text.now - 20) (drop 20 c.args.text.now), length-drop 20 c.args.text.now))
    c.fill_end.ensures c.write_digits.ensures.start c.write_digits.ensures.written (omega arith)
