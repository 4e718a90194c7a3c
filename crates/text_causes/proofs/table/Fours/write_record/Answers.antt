use Rattle.std.proofs.Common.{◌-◌, ◌+◌, ◌*◌, ◌∙◌, ◌++◌, ap, arith, codes, decimal, drop, length, length-drop, map, rules}
use Rattle.std.proofs.lemmas.List.{length-take}
use Rattle.std.proofs.lemmas.Fmt.{length-decimal-le}
use Rattle.search_groups.specs.Groups.{cells}
use Rattle.io_text.specs.Text.{after_commas}
use Rattle.text_causes.specs.GroupText.{cell_text}
use Rattle.text_causes.proofs.RowLaws.{digits_fit, row_is}
use Rattle.text_causes.proofs.table.Fours.write_record.Goals as goal

pub write_digits-start-requires : goal.write_digits-start-requires
write_digits-start-requires c = (search (rules, length-decimal-le 20), digits_fit c.args.text.now c.fill_line.new.text _ _ (omega (arith, c.requires.room)))

pub returns-clause-record : goal.returns-clause-record
returns-clause-record c =
    let k = c.args.listed in
    let ends = after_commas (map cell_text (cells k c.args.group)) ++ codes "\n" in
    row_is c.args.text.now c.fill_line.new.text c.write_digits-start.new.buf (decimal c.size_of-size.result) ends 20 _ (2 * k + 1) (20 + 2 * k + 1)
    c.write_digits-start.result (omega (arith, c.requires.room, c.requires.few))
    (omega (arith, c.requires.room, c.requires.few, c.fill_line.auto.text, length-take (length c.args.text.now - 20) (drop 20 c.args.text.now), length-drop 20 c.args.text.now))
    c.fill_line.ensures c.write_digits-start.ensures.start c.write_digits-start.ensures.written (omega arith)
    ∙ ap (λ n. decimal n ++ ends) c.size_of-size.ensures
