use Rattle.std.proofs.Common.{◌++◌, [], append_assoc, codes, refl, sym}
use Rattle.io_text.proofs.Sending.{sends_err, sends_last, sends_more, sends_none, sends_prefix}
use Rattle.text_findings.proofs.rows.add_words.Goals as goal

pub returns-in_err-add : goal.returns-in_err-add
returns-in_err-add g c = sends_err _ _ _ _ _ _ c.from_residual.ensures.0
    (let name = c.args.name.now in
    let rest = c.args.mark.now ++ (codes "," ++ c.args.word.now) in
    sends_prefix _ _ _ c.args.buffer.now c.args.buffer.now (name ++ rest) [] name rest refl (sends_none _ c.args.buffer.now) c.in_err-add.ensures)

pub returns-in_err-add-2 : goal.returns-in_err-add-2
returns-in_err-add-2 g c = sends_err _ _ _ _ _ _ c.from_residual-in_err-add-2.ensures.0
    (let name = c.args.name.now in
    let mark = c.args.mark.now in
    let rest = codes "," ++ c.args.word.now in
    sends_prefix _ _ _ _ _ (name ++ (mark ++ rest)) name mark rest refl c.in_ok-add.ensures c.in_err-add-2.ensures)

pub returns : goal.returns
returns g c =
    let name = c.args.name.now in
    let mark = c.args.mark.now in
    let rest = codes "," ++ c.args.word.now in
    sends_last _ _ _ _ _ _ (name ++ (mark ++ rest)) (name ++ mark) rest _ (sym (append_assoc name mark rest))
    (sends_more _ _ _ _ _ _ name mark c.in_ok-add.ensures c.in_ok-add-2.ensures) c.add_field.ensures
