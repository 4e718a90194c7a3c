use Rattle.std.proofs.Common.{◌++◌, ◌∷◌, [], ap, append-nil, refl}
use Rattle.io_text.specs.Text.{line_text}
use Rattle.io_text.proofs.Lines.{line_prefix}
use Rattle.io_text.proofs.Sending.{sends_last, sends_none, sends_err}
use Rattle.cli_witnesses.specs.Stimulus.{header, scan_record, stimulus_text}
use Rattle.cli_witnesses.proofs.stimulus.add_all.Goals as goal

pub returns-in_err-add_header : goal.returns-in_err-add_header
returns-in_err-add_header g c = sends_err _ _ _ _ _ _ c.from_residual.ensures.0
    (line_prefix _ _ _ c.args.buffer.now c.args.buffer.now [] _ (scan_record c.args.matching.now c.args.state.now ∷ []) (header c.args.program.now c.args.matching.now) refl
    (sends_none _ c.args.buffer.now) c.in_err-add_header.ensures)

pub returns : goal.returns
returns g c =
    let first = line_text (header c.args.program.now c.args.matching.now) in
    let second = line_text (scan_record c.args.matching.now c.args.state.now) in
    sends_last _ _ _ _ _ _ (stimulus_text c.args.program.now c.args.matching.now c.args.state.now) first second _ (ap (λ t. first ++ t) (append-nil second))
    c.in_ok-add_header.ensures c.add_scan.ensures
