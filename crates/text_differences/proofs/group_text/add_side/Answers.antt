use Rattle.std.proofs.Common.{◌∙◌, ◌==◌, ◌++◌, [], ap, append_assoc, append-nil, length, refl, sym, true}
use Rattle.io_text.proofs.Sending.{sends_err, sends_more, sends_none, sends_prefix}
use Rattle.diff_causes.specs.GroupCursor.{group_rows_left}
use Rattle.text_causes.specs.CauseText.{limited}
use Rattle.text_causes.specs.Forms.{end_text}
use Rattle.text_differences.specs.Forms.{names_in, rows_text, side_text, target_text}
use Rattle.text_differences.proofs.GroupLaws.{side_fits}
use Rattle.text_differences.proofs.group_text.add_side.Goals as goal

pub returns-in_err-add_target-clause-sends : goal.returns-in_err-add_target-clause-sends
returns-in_err-add_target-clause-sends g c = sends_err _ _ _ _ _ _ c.from_residual.ensures.0
    (let v = c.args.view in
    let rows = limited c.args.limit (group_rows_left c.args.groups.now) in
    let left = rows_text v.form v.side (names_in v) true rows ++ end_text v.form (length rows == 0) in
    sends_prefix _ _ _ c.args.buffer.now c.args.buffer.now (side_text v.form v.program.now v.listed.now v.side rows) [] (target_text v.form v.program.now v.side) left refl
    (sends_none _ c.args.buffer.now) c.in_err-add_target.ensures)

pub returns-in_err-summary-clause-sends : goal.returns-in_err-summary-clause-sends
returns-in_err-summary-clause-sends g c = sends_err _ _ _ _ _ _ c.from_residual-in_err-summary.ensures.0
    (let v = c.args.view in
    let rows = limited c.args.limit (group_rows_left c.args.groups.now) in
    let text = rows_text v.form v.side (names_in v) true rows in
    sends_prefix _ _ _ _ _ (side_text v.form v.program.now v.listed.now v.side rows) (target_text v.form v.program.now v.side) text (end_text v.form (length rows == 0)) refl
    c.in_ok-add_target.ensures c.in_err-summary.ensures.sends)

pub returns-in_err-add-clause-sends : goal.returns-in_err-add-clause-sends
returns-in_err-add-clause-sends g c = sends_err _ _ _ _ _ _ c.from_residual-in_err-add.ensures.0
    (let v = c.args.view in
    let rows = limited c.args.limit (group_rows_left c.args.groups.now) in
    let target = target_text v.form v.program.now v.side in
    let text = rows_text v.form v.side (names_in v) true rows in
    let end = end_text v.form (length rows == 0) in
    let split = ap (λ t. target ++ (text ++ t)) (sym (append-nil end)) ∙ sym (append_assoc target text (end ++ [])) in
    sends_prefix _ _ _ _ _ (side_text v.form v.program.now v.listed.now v.side rows) (target ++ text) end [] split
    (sends_more _ _ _ _ _ _ target text c.in_ok-add_target.ensures c.in_ok-summary.ensures.sends)
    (rw (c.end_of.ensures, c.in_ok-summary.ensures.rows) at c.in_err-add.ensures))

pub returns-clause-sends : goal.returns-clause-sends
returns-clause-sends g c =
    let v = c.args.view in
    let rows = limited c.args.limit (group_rows_left c.args.groups.now) in
    let target = target_text v.form v.program.now v.side in
    let text = rows_text v.form v.side (names_in v) true rows in
    let end = end_text v.form (length rows == 0) in
    let ended = rw (c.end_of.ensures, c.in_ok-summary.ensures.rows) at c.in_ok-add.ensures in
    sends_more _ _ _ _ _ _ target (text ++ end) c.in_ok-add_target.ensures (sends_more _ _ _ _ _ _ text end c.in_ok-summary.ensures.sends ended)

pub returns-clause-fits : goal.returns-clause-fits
returns-clause-fits g c =
    let s = c.in_ok-summary.ensures in
    let f = c.free-listed.ensures in
    side_fits c.args.limit (length c.args.groups.now.asked_old.listed) c.args.groups.now.rest _ _ s.rows s.differences f.few f.finite f.differences
