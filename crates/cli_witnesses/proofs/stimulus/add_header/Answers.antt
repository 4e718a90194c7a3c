use Rattle.std.proofs.Common.{◌++◌, [], codes, refl, sym, append_assoc, map}
use Rattle.diff_matching.specs.declared.matching.Pair.{Pair}
use Rattle.io_text.specs.Text.{after_commas, line_text}
use Rattle.io_text.proofs.Sending.{sends_prefix, sends_last, sends_more, sends_none, sends_err}
use Rattle.cli_witnesses.specs.Stimulus.{declared_name, header}
use Rattle.cli_witnesses.proofs.stimulus.add_header.Goals as goal

pub returns-in_err-add : goal.returns-in_err-add
returns-in_err-add g c = sends_err _ _ _ _ _ _ c.from_residual.ensures.0
    (let p = c.args.program.now in
    let m = c.args.matching.now in
    let names = after_commas (map (λ (x : Pair). declared_name p x.old) m.inputs) in
    sends_prefix _ _ _ c.args.buffer.now c.args.buffer.now (line_text (header p m)) [] (codes "moment") (names ++ codes "\n") refl
    (sends_none _ c.args.buffer.now) c.in_err-add.ensures)

pub returns-in_err-add_names : goal.returns-in_err-add_names
returns-in_err-add_names g c = sends_err _ _ _ _ _ _ c.from_residual-in_err-add_names.ensures.0
    (let p = c.args.program.now in
    let m = c.args.matching.now in
    let names = after_commas (map (λ (x : Pair). declared_name p x.old) m.inputs) in
    sends_prefix _ _ _ _ _ (line_text (header p m)) (codes "moment") names (codes "\n") refl c.in_ok-add.ensures
    (rw c.inputs.ensures at c.in_err-add_names.ensures))

pub returns : goal.returns
returns g c =
    let p = c.args.program.now in
    let m = c.args.matching.now in
    let names = after_commas (map (λ (x : Pair). declared_name p x.old) m.inputs) in
    sends_last _ _ _ _ _ _ (line_text (header p m)) (codes "moment" ++ names) (codes "\n") _ (sym (append_assoc (codes "moment") names (codes "\n")))
    (sends_more _ _ _ _ _ _ (codes "moment") names c.in_ok-add.ensures (rw c.inputs.ensures at c.in_ok-add_names.ensures)) c.add-2.ensures
