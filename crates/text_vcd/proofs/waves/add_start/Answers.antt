use Rattle.std.proofs.Common.{◌++◌, [], refl, sym, append_assoc}
use Rattle.io_text.proofs.Sending.{sends_prefix, sends_last, sends_more, sends_none, sends_err}
use Rattle.text_vcd.specs.Waves.{declarations, dumped, start_text, time_line}
use Rattle.text_vcd.proofs.waves.add_start.Goals as goal

pub returns-in_err-add_declarations : goal.returns-in_err-add_declarations
returns-in_err-add_declarations g c = sends_err _ _ _ _ _ _ c.from_residual.ensures.0
    (let p = c.args.program.now in
    let s = c.args.state.now in
    sends_prefix _ _ _ c.args.buffer.now c.args.buffer.now (start_text p s) [] (declarations p.decls) (time_line s.moment ++ dumped p.decls s) refl
    (sends_none _ c.args.buffer.now) (rw c.decls.ensures at c.in_err-add_declarations.ensures))

pub returns-in_err-add_time : goal.returns-in_err-add_time
returns-in_err-add_time g c = sends_err _ _ _ _ _ _ c.from_residual-in_err-add_time.ensures.0
    (let p = c.args.program.now in
    let s = c.args.state.now in
    sends_prefix _ _ _ _ _ (start_text p s) (declarations p.decls) (time_line s.moment) (dumped p.decls s) refl
    (rw c.decls.ensures at c.in_ok-add_declarations.ensures) (rw c.moment.ensures at c.in_err-add_time.ensures))

pub returns : goal.returns
returns g c =
    let p = c.args.program.now in
    let s = c.args.state.now in
    sends_last _ _ _ _ _ _ (start_text p s) (declarations p.decls ++ time_line s.moment) (dumped p.decls s) _
    (sym (append_assoc (declarations p.decls) (time_line s.moment) (dumped p.decls s)))
    (sends_more _ _ _ _ _ _ (declarations p.decls) (time_line s.moment) (rw c.decls.ensures at c.in_ok-add_declarations.ensures)
    (rw c.moment.ensures at c.in_ok-add_time.ensures)) (rw c.decls-2.ensures at c.add_dump.ensures)
