use Rattle.std.proofs.Common.{◌++◌, [], ap, append-nil, arith, refl, sym}
use Rattle.std.proofs.lemmas.Result.{IfOk-from_err}
use Rattle.causes_any_state.proofs.Rows.{no_rows}
use Rattle.text_lists.proofs.PossibleLaws.{none_few}
use Rattle.io_text.specs.Text.{line_text}
use Rattle.text_lists.specs.PossibleRows.{row_lines}
use Rattle.text_lists.specs.PossibleText.{possible_header, possible_text}
use Rattle.io_text.proofs.Sending.{flush_all, flush_prefix, sends_prefix, sends_more, sends_none, puts_err}
use Rattle.text_lists.proofs.possible_text.write_possible_causes.Goals as goal

pub returns-in_err-add_header : goal.returns-in_err-add_header
returns-in_err-add_header g c =
    let asked = c.args.causes.now in
    let failed = c.from_residual.ensures.0 in (
      [],
      record { later = omega arith; rows_are = no_rows asked.assumed asked.program asked.coil asked.listed asked.states asked.claim asked.from; same = refl },
      none_few c.args.limit,
      puts_err _ _ _ _ failed
          (sends_prefix _ _ _ [] [] (possible_text asked.program asked.listed []) [] (line_text (possible_header asked.program asked.listed)) [] refl (sends_none _ [])
          (rw (c.new-buffer.ensures, c.program-program.ensures, c.listed.ensures.listed) at c.in_err-add_header.ensures)),
      IfOk-from_err _ _ failed,
    )

pub returns-in_err-count : goal.returns-in_err-count
returns-in_err-count g c =
    let asked = c.args.causes.now in
    let failed = c.from_residual-in_err-count.ensures.0 in
    let added = c.in_err-count.ensures in
    let head = line_text (possible_header asked.program asked.listed) in
    let left = row_lines asked added.rows in
    let headed = rw (c.new-buffer.ensures, c.program-program.ensures, c.listed.ensures.listed) at c.in_ok-add_header.ensures in (
      added.rows,
      added.gave,
      added.few,
      puts_err _ _ _ _ failed (sends_prefix _ _ _ [] _ (head ++ left) head left [] (ap (λ t. head ++ t) (sym (append-nil left))) headed added.sends),
      IfOk-from_err _ _ failed,
    )

pub returns-in_err-flush : goal.returns-in_err-flush
returns-in_err-flush g c =
    let asked = c.args.causes.now in
    let failed = c.from_residual-in_err-flush.ensures.0 in
    let added = c.in_ok-count.ensures in
    let head = line_text (possible_header asked.program asked.listed) in
    let left = row_lines asked added.rows in
    let headed = rw (c.new-buffer.ensures, c.program-program.ensures, c.listed.ensures.listed) at c.in_ok-add_header.ensures in (
      added.rows,
      added.gave,
      added.few,
      puts_err _ _ _ _ failed (flush_prefix _ _ _ _ (head ++ left) (sends_more _ _ _ [] _ _ head left headed added.sends) c.in_err-flush.ensures.wrote),
      IfOk-from_err _ _ failed,
    )

pub returns : goal.returns
returns g c =
    let asked = c.args.causes.now in
    let added = c.in_ok-count.ensures in
    let head = line_text (possible_header asked.program asked.listed) in
    let left = row_lines asked added.rows in
    let headed = rw (c.new-buffer.ensures, c.program-program.ensures, c.listed.ensures.listed) at c.in_ok-add_header.ensures in (
      added.rows,
      added.gave,
      added.few,
      flush_all _ _ _ _ (head ++ left) (sends_more _ _ _ [] _ _ head left headed added.sends) c.in_ok-flush.ensures.wrote,
      (added.counts, added.all),
    )
