use Rattle.std.proofs.Common.{◌∙◌, ◌++◌, [], append_assoc, codes, decimal, sym}
use Rattle.std.specs.Prelude.{option_map}
use Rattle.csv.specs.Records.{fields_of}
use Rattle.io_text.proofs.Sending.{sends_err, sends_last, sends_more, sends_none, sends_prefix}
use Rattle.text_expected.specs.Expected.{row_line}
use Rattle.text_expected.proofs.Regroup.{regroup}
use Rattle.text_expected.proofs.telling.add_difference.Goals as goal

pub returns-in_err-add_head : goal.returns-in_err-add_head
returns-in_err-add_head g c = sends_err _ _ _ _ _ _ c.from_residual.ensures.0
    (let number = decimal c.args.number in
    let one = row_line (option_map (λ r. fields_of r.now) c.args.expected) in
    let other = row_line (option_map (λ r. fields_of r.now) c.args.found) in
    let head = codes "row " ++ (number ++ codes "\nexpected ") in
    let rest = one ++ (codes "found " ++ other) in
    sends_prefix _ _ _ c.args.buffer.now c.args.buffer.now _ [] head rest (regroup (codes "row ") number (codes "\nexpected ") rest)
    (sends_none _ c.args.buffer.now) c.in_err-add_head.ensures)

pub returns-in_err-add_row : goal.returns-in_err-add_row
returns-in_err-add_row g c = sends_err _ _ _ _ _ _ c.from_residual-in_err-add_row.ensures.0
    (let number = decimal c.args.number in
    let one = row_line (option_map (λ r. fields_of r.now) c.args.expected) in
    let other = row_line (option_map (λ r. fields_of r.now) c.args.found) in
    let head = codes "row " ++ (number ++ codes "\nexpected ") in
    let rest = one ++ (codes "found " ++ other) in
    sends_prefix _ _ _ _ _ _ head one (codes "found " ++ other) (regroup (codes "row ") number (codes "\nexpected ") rest) c.in_ok-add_head.ensures
    c.in_err-add_row.ensures)

pub returns-in_err-add : goal.returns-in_err-add
returns-in_err-add g c = sends_err _ _ _ _ _ _ c.from_residual-in_err-add.ensures.0
    (let number = decimal c.args.number in
    let one = row_line (option_map (λ r. fields_of r.now) c.args.expected) in
    let other = row_line (option_map (λ r. fields_of r.now) c.args.found) in
    let head = codes "row " ++ (number ++ codes "\nexpected ") in
    let rest = one ++ (codes "found " ++ other) in
    sends_prefix _ _ _ _ _ _ (head ++ one) (codes "found ") other
    (regroup (codes "row ") number (codes "\nexpected ") rest ∙ sym (append_assoc head one (codes "found " ++ other)))
    (sends_more _ _ _ _ _ _ head one c.in_ok-add_head.ensures c.in_ok-add_row.ensures) c.in_err-add.ensures)

pub returns : goal.returns
returns g c =
    let number = decimal c.args.number in
    let one = row_line (option_map (λ r. fields_of r.now) c.args.expected) in
    let other = row_line (option_map (λ r. fields_of r.now) c.args.found) in
    let head = codes "row " ++ (number ++ codes "\nexpected ") in
    let rest = one ++ (codes "found " ++ other) in
    sends_last _ _ _ _ _ _ _ ((head ++ one) ++ codes "found ") other _
    (regroup (codes "row ") number (codes "\nexpected ") rest ∙ sym (append_assoc head one (codes "found " ++ other)) ∙ sym (append_assoc (head ++ one) (codes "found ") other))
    (sends_more _ _ _ _ _ _ (head ++ one) (codes "found ") (sends_more _ _ _ _ _ _ head one c.in_ok-add_head.ensures c.in_ok-add_row.ensures) c.in_ok-add.ensures)
    c.add_row-2.ensures
