use Rattle.std.proofs.Common.{[], ◌++◌, ◌∙◌, ap, append-nil, arith, length-append, sym}
use Rattle.io_text.specs.Text.{lines_text}
use Rattle.io_text.proofs.Sending.{flush_all, flush_prefix, puts_err, sends_more, sends_none, sends_prefix, sends_same}
use Rattle.text_warnings.specs.Decided.{decided}
use Rattle.text_warnings.specs.Warnings.{declared_rows, place_rows, warning_rows}
use Rattle.text_warnings.proofs.SimilarRows.{rows_text, rows_told}
use Rattle.text_warnings.proofs.write.write_warnings.Goals as goal

pub returns-in_err-declared-clause-wrote : goal.returns-in_err-declared-clause-wrote
returns-in_err-declared-clause-wrote g c =
    let p = c.args.program.now in
    λ told. rw (rows_told told decided p)
    (puts_err _ _ _ _ c.from_residual.ensures.0
    (sends_prefix _ _ _ [] [] (lines_text (warning_rows decided p)) [] (lines_text (declared_rows decided p)) (lines_text (place_rows decided p)) (rows_text p)
    (sends_none _ []) (rw c.new-buffer.ensures at c.in_err-declared.ensures.sends)))

pub returns-in_err-places-clause-wrote : goal.returns-in_err-places-clause-wrote
returns-in_err-places-clause-wrote g c =
    let p = c.args.program.now in
    let declared = lines_text (declared_rows decided p) in
    λ told. rw (rows_told told decided p)
    (puts_err _ _ _ _ c.from_residual-in_err-places.ensures.0
    (sends_prefix _ _ _ [] _ (lines_text (warning_rows decided p)) declared (lines_text (place_rows decided p)) [] (rows_text p ∙ ap (λ t. declared ++ t) (sym (append-nil (lines_text (place_rows decided p)))))
    (rw c.new-buffer.ensures at c.in_ok-declared.ensures.sends) c.in_err-places.ensures.sends))

pub returns-in_err-flush-clause-wrote : goal.returns-in_err-flush-clause-wrote
returns-in_err-flush-clause-wrote g c =
    let p = c.args.program.now in
    let declared = lines_text (declared_rows decided p) in
    let places = lines_text (place_rows decided p) in
    let all = sends_same _ _ [] _ (declared ++ places) (lines_text (warning_rows decided p)) (sym (rows_text p))
    (sends_more _ _ _ [] _ _ declared places (rw c.new-buffer.ensures at c.in_ok-declared.ensures.sends) c.in_ok-places.ensures.sends) in
    λ told. rw (rows_told told decided p)
    (puts_err _ _ _ _ c.from_residual-in_err-flush.ensures.0 (flush_prefix _ _ _ _ (lines_text (warning_rows decided p)) all c.in_err-flush.ensures.wrote))

pub returns-clause-wrote : goal.returns-clause-wrote
returns-clause-wrote g c =
    let p = c.args.program.now in
    let declared = lines_text (declared_rows decided p) in
    let places = lines_text (place_rows decided p) in
    let all = sends_same _ _ [] _ (declared ++ places) (lines_text (warning_rows decided p)) (sym (rows_text p))
    (sends_more _ _ _ [] _ _ declared places (rw c.new-buffer.ensures at c.in_ok-declared.ensures.sends) c.in_ok-places.ensures.sends) in
    λ told. rw (rows_told told decided p) (flush_all _ _ _ _ (lines_text (warning_rows decided p)) all c.in_ok-flush.ensures.wrote)

pub returns-clause-rows : goal.returns-clause-rows
unfolding warning_rows
returns-clause-rows g c =
    let p = c.args.program.now in
    λ told. rw (rows_told told decided p)
    (omega (arith, c.in_ok-places.ensures.count, c.in_ok-declared.ensures.count, length-append (declared_rows decided p) (place_rows decided p)))
