use Rattle.std.proofs.Common.{◌++◌, [], ap, append-nil, length, map, refl, sym}
use Rattle.io_text.specs.Text.{line_text, lines_text}
use Rattle.io_text.proofs.Sending.{flush_all, flush_prefix, puts_err, sends_more, sends_none, sends_prefix}
use Rattle.text_causes.specs.CauseText.{limited}
use Rattle.text_differences.specs.DifferenceText.{difference_header}
use Rattle.text_held_differences.specs.HeldText.{held_difference_record, held_difference_text}
use Rattle.text_held_differences.proofs.held.write_held_differences.Goals as goal

pub returns-in_err-add_header-clause-bytes : goal.returns-in_err-add_header-clause-bytes
returns-in_err-add_header-clause-bytes g c = puts_err _ _ _ _ c.from_residual.ensures.0
    (let asked = c.args.differences.now.asked_old in
    let rows = limited c.args.limit c.args.differences.now.rest in
    let left = lines_text (map (held_difference_record (length asked.listed)) rows) in
    sends_prefix _ _ _ [] [] (held_difference_text asked.program asked.listed rows) [] (line_text (difference_header asked.program asked.listed)) left refl (sends_none _ [])
    (rw (c.new-buffer.ensures, c.old_program-program.ensures, c.free.ensures.listed) at c.in_err-add_header.ensures))

pub returns-in_err-count-clause-bytes : goal.returns-in_err-count-clause-bytes
returns-in_err-count-clause-bytes g c = puts_err _ _ _ _ c.from_residual-in_err-count.ensures.0
    (let asked = c.args.differences.now.asked_old in
    let head = line_text (difference_header asked.program asked.listed) in
    let left = lines_text (map (held_difference_record (length asked.listed)) (limited c.args.limit c.args.differences.now.rest)) in
    let headed = rw (c.new-buffer.ensures, c.old_program-program.ensures, c.free.ensures.listed) at c.in_ok-add_header.ensures in
    sends_prefix _ _ _ [] _ (head ++ left) head left [] (ap (λ t. head ++ t) (sym (append-nil left))) headed
    (rw c.free-listed.ensures.listed at c.in_err-count.ensures.sends))

pub returns-in_err-flush-clause-bytes : goal.returns-in_err-flush-clause-bytes
returns-in_err-flush-clause-bytes g c = puts_err _ _ _ _ c.from_residual-in_err-flush.ensures.0
    (let asked = c.args.differences.now.asked_old in
    let head = line_text (difference_header asked.program asked.listed) in
    let left = lines_text (map (held_difference_record (length asked.listed)) (limited c.args.limit c.args.differences.now.rest)) in
    let headed = rw (c.new-buffer.ensures, c.old_program-program.ensures, c.free.ensures.listed) at c.in_ok-add_header.ensures in
    let listed = rw c.free-listed.ensures.listed at c.in_ok-count.ensures.sends in
    flush_prefix _ _ _ _ (head ++ left) (sends_more _ _ _ [] _ _ head left headed listed) c.in_err-flush.ensures.wrote)

pub returns-clause-bytes : goal.returns-clause-bytes
returns-clause-bytes g c =
    let asked = c.args.differences.now.asked_old in
    let head = line_text (difference_header asked.program asked.listed) in
    let left = lines_text (map (held_difference_record (length asked.listed)) (limited c.args.limit c.args.differences.now.rest)) in
    let headed = rw (c.new-buffer.ensures, c.old_program-program.ensures, c.free.ensures.listed) at c.in_ok-add_header.ensures in
    let listed = rw c.free-listed.ensures.listed at c.in_ok-count.ensures.sends in
    flush_all _ _ _ _ (head ++ left) (sends_more _ _ _ [] _ _ head left headed listed) c.in_ok-flush.ensures.wrote
