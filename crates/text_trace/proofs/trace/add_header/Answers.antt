use Rattle.std.proofs.Common.{◌++◌, [], codes, refl, sym, append_assoc, filter, map}
use Rattle.io_text.specs.Text.{after_commas}
use Rattle.io_text.proofs.Sending.{sends_prefix, sends_last, sends_more, sends_none, sends_err}
use Rattle.text_trace.specs.Trace.{is_output, trace_header}
use Rattle.text_trace.proofs.trace.add_header.Goals as goal

pub returns-in_err-add : goal.returns-in_err-add
returns-in_err-add g c = sends_err _ _ _ _ _ _ c.from_residual.ensures.0
    (let names = after_commas (map (λ v. v.title) (filter is_output c.args.program.now.decls.vars)) in
    sends_prefix _ _ _ c.args.buffer.now c.args.buffer.now (trace_header c.args.program.now) [] (codes "moment") (names ++ codes "\n") refl
    (sends_none _ c.args.buffer.now) c.in_err-add.ensures)

pub returns-in_err-add_names : goal.returns-in_err-add_names
returns-in_err-add_names g c = sends_err _ _ _ _ _ _ c.from_residual-in_err-add_names.ensures.0
    (let names = after_commas (map (λ v. v.title) (filter is_output c.args.program.now.decls.vars)) in
    sends_prefix _ _ _ _ _ (trace_header c.args.program.now) (codes "moment") names (codes "\n") refl c.in_ok-add.ensures
    (rw (c.vars.ensures.value, c.decls.ensures) at c.in_err-add_names.ensures))

pub returns : goal.returns
returns g c =
    let names = after_commas (map (λ v. v.title) (filter is_output c.args.program.now.decls.vars)) in
    sends_last _ _ _ _ _ _ (trace_header c.args.program.now) (codes "moment" ++ names) (codes "\n") _ (sym (append_assoc (codes "moment") names (codes "\n")))
    (sends_more _ _ _ _ _ _ (codes "moment") names c.in_ok-add.ensures (rw (c.vars.ensures.value, c.decls.ensures) at c.in_ok-add_names.ensures)) c.add-2.ensures
