use Rattle.std.proofs.Common.{◌++◌, [], ap, append-nil, arith, refl, sym}
use Rattle.std.proofs.lemmas.Result.{IfOk-from_err}
use Rattle.causes_in_runs.proofs.RunRows.{no_run_rows}
use Rattle.text_runs.proofs.AddingRows.{none_few}
use Rattle.io_text.specs.Text.{line_text}
use Rattle.text_runs.specs.AddedRows.{row_lines}
use Rattle.text_runs.specs.CauseText.{run_header, run_causes_text}
use Rattle.io_text.proofs.Sending.{flush_all, flush_prefix, sends_prefix, sends_more, sends_none, puts_err}
use Rattle.text_runs.proofs.cause_rows.write_run_causes.Goals as goal

pub returns-in_err-add_header : goal.returns-in_err-add_header
returns-in_err-add_header g c =
    let asked = c.args.causes.now in
    let failed = c.from_residual.ensures.0 in (
      [],
      record { later = omega arith; rows_are = no_run_rows asked.assumed asked.program asked.state asked.coil asked.listed asked.states asked.from; same = refl },
      none_few c.args.limit,
      puts_err _ _ _ _ failed
          (sends_prefix _ _ _ [] [] (run_causes_text asked.program asked.listed []) [] (line_text (run_header asked.program asked.listed)) [] refl (sends_none _ [])
          (rw (c.new-buffer.ensures, c.program-program.ensures, c.listed.ensures.listed) at c.in_err-add_header.ensures)),
      IfOk-from_err _ _ failed,
    )

pub returns-in_err-count : goal.returns-in_err-count
returns-in_err-count g c =
    let asked = c.args.causes.now in
    let failed = c.from_residual-in_err-count.ensures.0 in
    let added = c.in_err-count.ensures in
    let head = line_text (run_header asked.program asked.listed) in
    let left = row_lines asked added.rows in
    let headed = rw (c.new-buffer.ensures, c.program-program.ensures, c.listed.ensures.listed) at c.in_ok-add_header.ensures in (
      added.rows,
      added.gave,
      added.few,
      puts_err _ _ _ _ failed (sends_prefix _ _ _ [] _ (head ++ left) head left [] (ap (λ t. head ++ t) (sym (append-nil left))) headed added.sends),
      IfOk-from_err _ _ failed,
    )

pub returns-in_err-flush : goal.returns-in_err-flush
returns-in_err-flush g c =
    let asked = c.args.causes.now in
    let failed = c.from_residual-in_err-flush.ensures.0 in
    let added = c.in_ok-count.ensures in
    let head = line_text (run_header asked.program asked.listed) in
    let left = row_lines asked added.rows in
    let headed = rw (c.new-buffer.ensures, c.program-program.ensures, c.listed.ensures.listed) at c.in_ok-add_header.ensures in (
      added.rows,
      added.gave,
      added.few,
      puts_err _ _ _ _ failed (flush_prefix _ _ _ _ (head ++ left) (sends_more _ _ _ [] _ _ head left headed added.sends) c.in_err-flush.ensures.wrote),
      IfOk-from_err _ _ failed,
    )

pub returns : goal.returns
returns g c =
    let asked = c.args.causes.now in
    let added = c.in_ok-count.ensures in
    let head = line_text (run_header asked.program asked.listed) in
    let left = row_lines asked added.rows in
    let headed = rw (c.new-buffer.ensures, c.program-program.ensures, c.listed.ensures.listed) at c.in_ok-add_header.ensures in (
      added.rows,
      added.gave,
      added.few,
      flush_all _ _ _ _ (head ++ left) (sends_more _ _ _ [] _ _ head left headed added.sends) c.in_ok-flush.ensures.wrote,
      (added.counts, added.all),
    )
