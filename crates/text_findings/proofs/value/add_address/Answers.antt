use Rattle.std.proofs.Common.{◌≡◌, ◌∙◌, ◌++◌, [], ap, append_assoc, decimal, sym}
use Rattle.io_text.proofs.Sending.{sends_err, sends_last, sends_none, sends_prefix}
use Rattle.text_findings.specs.FindingText.{address_text, letters, second_part}
use Rattle.text_findings.proofs.Records.{with_second}
use Rattle.text_findings.proofs.value.add_address.Goals as goal

pub returns-in_err-add_pieces : goal.returns-in_err-add_pieces
returns-in_err-add_pieces g c = sends_err _ _ _ _ _ _ c.from_residual.ensures.0
    (let a = c.args.address in
    sends_prefix _ _ _ c.args.buffer.now c.args.buffer.now (address_text a) [] (letters a.letter ++ (decimal a.first ++ [])) (second_part a.second)
    (with_second (letters a.letter) (decimal a.first) (second_part a.second)) (sends_none _ c.args.buffer.now) (rw (c.letters-head.ensures, c.from.ensures) at c.in_err-add_pieces.ensures))

pub returns : goal.returns
returns g c =
    let a = c.args.address in
    sends_last _ _ _ _ _ _ (address_text a) (letters a.letter ++ (decimal a.first ++ [])) (second_part a.second) _
    (with_second (letters a.letter) (decimal a.first) (second_part a.second)) (rw (c.letters-head.ensures, c.from.ensures) at c.in_ok-add_pieces.ensures) c.add_second.ensures
