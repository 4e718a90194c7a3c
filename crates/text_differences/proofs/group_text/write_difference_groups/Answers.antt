use Rattle.std.proofs.Common.{◌∙◌, ◌++◌, [], ap, append_assoc, append-nil, sym}
use Rattle.io_text.proofs.Sending.{flush_all, flush_prefix, puts_err, sends_more, sends_none, sends_prefix, sends_same}
use Rattle.search_differences.specs.declared.side.Side.TheVariants.{Old, New}
use Rattle.text_differences.specs.Forms.{side_text, start_text}
use Rattle.text_differences.specs.GroupText.{difference_group_text, new_rows_of, old_rows_of}
use Rattle.text_differences.proofs.FormLaws.{form_parts}
use Rattle.text_differences.proofs.group_text.write_difference_groups.Goals as goal

pub returns-in_err-add_start-clause-bytes : goal.returns-in_err-add_start-clause-bytes
returns-in_err-add_start-clause-bytes g c = puts_err _ _ _ _ c.from_residual.ensures.0
    (let asked = c.args.old.now.asked_old in
    let old_rows = old_rows_of c.args.limit c.args.old.now in
    let new_rows = new_rows_of c.args.limit c.args.old.now c.args.new.now in
    let whole = difference_group_text c.args.form asked.program asked.listed old_rows new_rows in
    let start = start_text c.args.form asked.program asked.listed in
    let before = side_text c.args.form asked.program asked.listed Old old_rows in
    let after = side_text c.args.form asked.program asked.listed New new_rows in
    let parts = form_parts c.args.form asked.program asked.listed old_rows new_rows in
    sends_prefix _ _ _ [] [] whole [] start (before ++ after) parts (sends_none _ [])
    (rw (c.new-buffer.ensures, c.old_program-program.ensures, c.free-listed.ensures.listed) at c.in_err-add_start.ensures))

pub returns-in_err-first-clause-bytes : goal.returns-in_err-first-clause-bytes
returns-in_err-first-clause-bytes g c = puts_err _ _ _ _ c.from_residual-in_err-first.ensures.0
    (let asked = c.args.old.now.asked_old in
    let old_rows = old_rows_of c.args.limit c.args.old.now in
    let new_rows = new_rows_of c.args.limit c.args.old.now c.args.new.now in
    let whole = difference_group_text c.args.form asked.program asked.listed old_rows new_rows in
    let start = start_text c.args.form asked.program asked.listed in
    let before = side_text c.args.form asked.program asked.listed Old old_rows in
    let after = side_text c.args.form asked.program asked.listed New new_rows in
    let parts = form_parts c.args.form asked.program asked.listed old_rows new_rows in
    let begun = rw (c.new-buffer.ensures, c.old_program-program.ensures, c.free-listed.ensures.listed) at c.in_ok-add_start.ensures in
    sends_prefix _ _ _ [] _ whole start before after parts begun (rw (c.old_program-program.ensures, c.free-listed.ensures.listed) at c.in_err-first.ensures.sends))

pub returns-in_err-second-clause-bytes : goal.returns-in_err-second-clause-bytes
returns-in_err-second-clause-bytes g c = puts_err _ _ _ _ c.from_residual-in_err-second.ensures.0
    (let asked = c.args.old.now.asked_old in
    let old_rows = old_rows_of c.args.limit c.args.old.now in
    let new_rows = new_rows_of c.args.limit c.args.old.now c.args.new.now in
    let whole = difference_group_text c.args.form asked.program asked.listed old_rows new_rows in
    let start = start_text c.args.form asked.program asked.listed in
    let before = side_text c.args.form asked.program asked.listed Old old_rows in
    let after = side_text c.args.form asked.program asked.listed New new_rows in
    let parts = form_parts c.args.form asked.program asked.listed old_rows new_rows in
    let begun = rw (c.new-buffer.ensures, c.old_program-program.ensures, c.free-listed.ensures.listed) at c.in_ok-add_start.ensures in
    let first = rw (c.old_program-program.ensures, c.free-listed.ensures.listed) at c.in_ok-first.ensures.sends in
    let split = parts ∙ ap (λ t. start ++ (before ++ t)) (sym (append-nil after)) ∙ sym (append_assoc start before (after ++ [])) in
    sends_prefix _ _ _ [] _ whole (start ++ before) after [] split (sends_more _ _ _ [] _ _ start before begun first)
    (rw (c.old_program-program.ensures, c.free-listed.ensures.listed, c.limit_after-left.ensures, c.in_ok-first.ensures.rows) at c.in_err-second.ensures.sends))

pub returns-in_err-flush-clause-bytes : goal.returns-in_err-flush-clause-bytes
returns-in_err-flush-clause-bytes g c = puts_err _ _ _ _ c.from_residual-in_err-flush.ensures.0
    (let asked = c.args.old.now.asked_old in
    let old_rows = old_rows_of c.args.limit c.args.old.now in
    let new_rows = new_rows_of c.args.limit c.args.old.now c.args.new.now in
    let whole = difference_group_text c.args.form asked.program asked.listed old_rows new_rows in
    let start = start_text c.args.form asked.program asked.listed in
    let before = side_text c.args.form asked.program asked.listed Old old_rows in
    let after = side_text c.args.form asked.program asked.listed New new_rows in
    let parts = form_parts c.args.form asked.program asked.listed old_rows new_rows in
    let begun = rw (c.new-buffer.ensures, c.old_program-program.ensures, c.free-listed.ensures.listed) at c.in_ok-add_start.ensures in
    let first = rw (c.old_program-program.ensures, c.free-listed.ensures.listed) at c.in_ok-first.ensures.sends in
    let second = rw (c.old_program-program.ensures, c.free-listed.ensures.listed, c.limit_after-left.ensures, c.in_ok-first.ensures.rows) at c.in_ok-second.ensures.sends in
    let all = sends_same _ _ _ _ _ whole (sym parts) (sends_more _ _ _ [] _ _ start (before ++ after) begun (sends_more _ _ _ _ _ _ before after first second)) in
    flush_prefix _ _ _ _ whole all c.in_err-flush.ensures.wrote)

pub returns-clause-bytes : goal.returns-clause-bytes
returns-clause-bytes g c =
    let asked = c.args.old.now.asked_old in
    let old_rows = old_rows_of c.args.limit c.args.old.now in
    let new_rows = new_rows_of c.args.limit c.args.old.now c.args.new.now in
    let whole = difference_group_text c.args.form asked.program asked.listed old_rows new_rows in
    let start = start_text c.args.form asked.program asked.listed in
    let before = side_text c.args.form asked.program asked.listed Old old_rows in
    let after = side_text c.args.form asked.program asked.listed New new_rows in
    let parts = form_parts c.args.form asked.program asked.listed old_rows new_rows in
    let begun = rw (c.new-buffer.ensures, c.old_program-program.ensures, c.free-listed.ensures.listed) at c.in_ok-add_start.ensures in
    let first = rw (c.old_program-program.ensures, c.free-listed.ensures.listed) at c.in_ok-first.ensures.sends in
    let second = rw (c.old_program-program.ensures, c.free-listed.ensures.listed, c.limit_after-left.ensures, c.in_ok-first.ensures.rows) at c.in_ok-second.ensures.sends in
    let all = sends_same _ _ _ _ _ whole (sym parts) (sends_more _ _ _ [] _ _ start (before ++ after) begun (sends_more _ _ _ _ _ _ before after first second)) in
    flush_all _ _ _ _ whole all c.in_ok-flush.ensures.wrote
