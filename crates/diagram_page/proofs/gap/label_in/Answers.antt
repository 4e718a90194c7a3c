use Rattle.std.proofs.Common.{None, rules, arith}
use Rattle.std.proofs.lemmas.Grind.{common_steps}
use Rattle.diagram_page.proofs.LabelLaws.{label_by}
use Rattle.diagram_page.proofs.gap.label_in.Goals as goal

pub returns-then-is_blank_line : goal.returns-then-is_blank_line
returns-then-is_blank_line c =
    label_by c.args.text.now c.split_at.result.0.now c.after_blanks.result.now c.label_named.result (search rules) (search rules) (first_of (search rules, grind (arith, common_steps)))

pub returns-else-b-eq58 : goal.returns-else-b-eq58
returns-else-b-eq58 c =
    label_by c.args.text.now c.split_at.result.0.now c.after_blanks.result.now None (search rules) (search rules) (first_of (search rules, grind (arith, common_steps)))
