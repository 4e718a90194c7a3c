use Rattle.std.proofs.Common.{◌++◌, [], codes}
use Rattle.search_differences.specs.declared.side.Side.TheVariants.{Old, New}
use Rattle.io_text.specs.Text.{line_text}
use Rattle.io_text.proofs.Sending.{sends_err, sends_last, sends_none, sends_prefix}
use Rattle.text_findings.specs.FindingText.{finding_record, mark_of, name_of, value_in, value_text, word_of}
use Rattle.text_findings.proofs.Records.{in_pieces}
use Rattle.text_findings.proofs.rows.add_record.Goals as goal

pub returns-in_err-add_words : goal.returns-in_err-add_words
returns-in_err-add_words g c = sends_err _ _ _ _ _ _ c.from_residual.ensures.0
    (let f = c.args.finding in
    let name = name_of c.args.old.now c.args.new.now f.subject in
    let mark = mark_of f.subject.sort in
    let word = word_of f.subject.sort f.remark in
    let old = value_text (value_in Old f.remark) in
    let new = value_text (value_in New f.remark) in
    sends_prefix _ _ _ c.args.buffer.now c.args.buffer.now (line_text (finding_record c.args.old.now c.args.new.now f)) [] (name ++ (mark ++ (codes "," ++ word)))
    ((codes "," ++ old) ++ ((codes "," ++ new) ++ codes "\n")) (in_pieces name mark word old new) (sends_none _ c.args.buffer.now)
    (rw (c.name_of-name.ensures, c.mark_of.ensures, c.word_of-word.ensures) at c.in_err-add_words.ensures))

pub returns : goal.returns
returns g c =
    let f = c.args.finding in
    let name = name_of c.args.old.now c.args.new.now f.subject in
    let mark = mark_of f.subject.sort in
    let word = word_of f.subject.sort f.remark in
    let old = value_text (value_in Old f.remark) in
    let new = value_text (value_in New f.remark) in
    sends_last _ _ _ _ _ _ (line_text (finding_record c.args.old.now c.args.new.now f)) (name ++ (mark ++ (codes "," ++ word)))
    ((codes "," ++ old) ++ ((codes "," ++ new) ++ codes "\n")) _ (in_pieces name mark word old new)
    (rw (c.name_of-name.ensures, c.mark_of.ensures, c.word_of-word.ensures) at c.in_ok-add_words.ensures) c.add_values.ensures
