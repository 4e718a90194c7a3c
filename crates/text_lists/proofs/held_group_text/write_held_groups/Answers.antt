use Rattle.std.proofs.Common.{◌++◌, [], ap, append-nil, length, map, refl, sym}
use Rattle.io_text.specs.Text.{line_text, lines_text}
use Rattle.text_causes.specs.CauseText.{limited}
use Rattle.text_lists.specs.ClassText.{held_group_header, held_group_record, held_group_text}
use Rattle.io_text.proofs.Sending.{flush_all, flush_prefix, sends_prefix, sends_more, sends_none, puts_err}
use Rattle.text_lists.proofs.held_group_text.write_held_groups.Goals as goal

pub returns-in_err-add_header-clause-bytes : goal.returns-in_err-add_header-clause-bytes
returns-in_err-add_header-clause-bytes g c = puts_err _ _ _ _ c.from_residual.ensures.0
    (let held = c.args.groups.now in
    let left = lines_text (map (held_group_record (length held.listed)) (limited c.args.limit held.rest)) in
    sends_prefix _ _ _ [] [] (held_group_text held.program held.listed (limited c.args.limit held.rest)) []
    (line_text (held_group_header held.program held.listed)) left refl (sends_none _ [])
    (rw (c.new-buffer.ensures, c.program-program.ensures, c.listed.ensures.listed) at c.in_err-add_header.ensures))

pub returns-in_err-summary-clause-bytes : goal.returns-in_err-summary-clause-bytes
returns-in_err-summary-clause-bytes g c = puts_err _ _ _ _ c.from_residual-in_err-summary.ensures.0
    (let held = c.args.groups.now in
    let head = line_text (held_group_header held.program held.listed) in
    let left = lines_text (map (held_group_record (length held.listed)) (limited c.args.limit held.rest)) in
    let headed = rw (c.new-buffer.ensures, c.program-program.ensures, c.listed.ensures.listed) at c.in_ok-add_header.ensures in
    sends_prefix _ _ _ [] _ (head ++ left) head left [] (ap (λ t. head ++ t) (sym (append-nil left))) headed
    (rw c.listed-listed.ensures.listed at c.in_err-summary.ensures.sends))

pub returns-in_err-flush-clause-bytes : goal.returns-in_err-flush-clause-bytes
returns-in_err-flush-clause-bytes g c = puts_err _ _ _ _ c.from_residual-in_err-flush.ensures.0
    (let held = c.args.groups.now in
    let head = line_text (held_group_header held.program held.listed) in
    let left = lines_text (map (held_group_record (length held.listed)) (limited c.args.limit held.rest)) in
    let headed = rw (c.new-buffer.ensures, c.program-program.ensures, c.listed.ensures.listed) at c.in_ok-add_header.ensures in
    let listed = rw c.listed-listed.ensures.listed at c.in_ok-summary.ensures.sends in
    flush_prefix _ _ _ _ (head ++ left) (sends_more _ _ _ [] _ _ head left headed listed) c.in_err-flush.ensures.wrote)

pub returns-clause-bytes : goal.returns-clause-bytes
returns-clause-bytes g c =
    let held = c.args.groups.now in
    let head = line_text (held_group_header held.program held.listed) in
    let left = lines_text (map (held_group_record (length held.listed)) (limited c.args.limit held.rest)) in
    let headed = rw (c.new-buffer.ensures, c.program-program.ensures, c.listed.ensures.listed) at c.in_ok-add_header.ensures in
    let listed = rw c.listed-listed.ensures.listed at c.in_ok-summary.ensures.sends in
    flush_all _ _ _ _ (head ++ left) (sends_more _ _ _ [] _ _ head left headed listed) c.in_ok-flush.ensures.wrote
