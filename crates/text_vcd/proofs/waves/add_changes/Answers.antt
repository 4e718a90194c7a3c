use Rattle.std.proofs.Common.{[], refl}
use Rattle.io_text.proofs.Sending.{sends_prefix, sends_last, sends_none, sends_err}
use Rattle.text_vcd.specs.Waves.{change_line, change_text, for_each, moved_line}
use Rattle.text_vcd.proofs.waves.add_changes.Goals as goal

pub returns-in_err-add_moved : goal.returns-in_err-add_moved
returns-in_err-add_moved g c = sends_err _ _ _ _ _ _ c.from_residual.ensures.0
    (let s = c.args.before.now in
    let t = c.args.after.now in
    sends_prefix _ _ _ c.args.buffer.now c.args.buffer.now (change_text c.args.program.now s t) [] (moved_line s t) (for_each c.args.program.now.decls (change_line s t)) refl
    (sends_none _ c.args.buffer.now) c.in_err-add_moved.ensures)

pub returns : goal.returns
returns g c =
    let s = c.args.before.now in
    let t = c.args.after.now in
    sends_last _ _ _ _ _ _ (change_text c.args.program.now s t) (moved_line s t) (for_each c.args.program.now.decls (change_line s t)) _ refl
    c.in_ok-add_moved.ensures (rw c.decls.ensures at c.add_lines.ensures)
