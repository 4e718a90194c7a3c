use Rattle.std.proofs.Common.{rules}
use Rattle.diagram_page.proofs.FormLaws.{whole_told, plain_told, marked_told}
use Rattle.diagram_page.proofs.form.form_at.Goals as goal

pub returns-in-Some : goal.returns-in-Some
returns-in-Some c = whole_told c.args.chars.now c.lookup.result c.in-Some.form (search rules) (search rules)

pub returns-then-is_empty : goal.returns-then-is_empty
returns-then-is_empty c = plain_told c.args.chars.now c.lookup.result (search rules) (search rules) (search rules)

pub returns-else-is_empty : goal.returns-else-is_empty
returns-else-is_empty c = marked_told c.args.chars.now c.dashes_before.result c.lookup.result c.mark_at.result (search rules) (search rules) (search rules) (search rules) (search rules)
