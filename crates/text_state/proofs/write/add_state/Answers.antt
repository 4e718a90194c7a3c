use Rattle.std.proofs.Common.{◌++◌, [], refl, sym, append_assoc}
use Rattle.io_text.specs.Text.{line_text, lines_text}
use Rattle.io_text.proofs.Sending.{sends_prefix, sends_last, sends_more, sends_none, sends_err}
use Rattle.text_state.specs.StateText.{item_records, state_text, version_record}
use Rattle.text_state.specs.Parts.{moment_record}
use Rattle.text_state.specs.declared.version.Version.TheVariants.{Second}
use Rattle.text_state.proofs.write.add_state.Goals as goal

pub returns-in_err-add_version : goal.returns-in_err-add_version
returns-in_err-add_version g c = sends_err _ _ _ _ _ _ c.from_residual.ensures.0
    (let p = c.args.program.now in
    let s = c.args.state.now in
    sends_prefix _ _ _ c.args.buffer.now c.args.buffer.now (state_text p s) [] (line_text (version_record Second)) (line_text (moment_record s.moment) ++ lines_text (item_records Second p s)) refl
    (sends_none _ c.args.buffer.now) c.in_err-add_version.ensures)

pub returns-in_err-add_moment : goal.returns-in_err-add_moment
returns-in_err-add_moment g c = sends_err _ _ _ _ _ _ c.from_residual-in_err-add_moment.ensures.0
    (let p = c.args.program.now in
    let s = c.args.state.now in
    sends_prefix _ _ _ _ _ (state_text p s) (line_text (version_record Second)) (line_text (moment_record s.moment)) (lines_text (item_records Second p s)) refl
    c.in_ok-add_version.ensures (rw c.moment.ensures at c.in_err-add_moment.ensures))

pub returns : goal.returns
returns g c =
    let p = c.args.program.now in
    let s = c.args.state.now in
    let version = line_text (version_record Second) in
    let moment = line_text (moment_record s.moment) in
    let items = lines_text (item_records Second p s) in
    sends_last _ _ _ _ _ _ (state_text p s) (version ++ moment) items _ (sym (append_assoc version moment items))
    (sends_more _ _ _ _ _ _ version moment c.in_ok-add_version.ensures (rw c.moment.ensures at c.in_ok-add_moment.ensures)) c.add_items.ensures
