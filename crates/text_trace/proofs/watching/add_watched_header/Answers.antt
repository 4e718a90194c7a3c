use Rattle.std.proofs.Common.{◌++◌, [], codes, filter, map}
use Rattle.io_text.specs.Text.{after_commas}
use Rattle.io_text.proofs.Sending.{sends_prefix, sends_last, sends_more, sends_none, sends_err}
use Rattle.text_trace.specs.Trace.{is_output, watched_header}
use Rattle.text_trace.specs.Watching.{column_name}
use Rattle.text_trace.proofs.Columns.{parted, parted_behind, parted_between}
use Rattle.text_trace.proofs.watching.add_watched_header.Goals as goal

pub returns-in_err-add : goal.returns-in_err-add
returns-in_err-add g c = sends_err _ _ _ _ _ _ c.from_residual.ensures.0
    (let p = c.args.program.now in
    let outputs = map (λ v. v.title) (filter is_output p.decls.vars) in
    let columns = map (column_name p.decls) c.args.watched.now in
    sends_prefix _ _ _ c.args.buffer.now c.args.buffer.now (watched_header p c.args.watched.now) [] (codes "moment") (after_commas outputs ++ (after_commas columns ++ codes "\n"))
    (parted (codes "moment") outputs columns) (sends_none _ c.args.buffer.now) c.in_err-add.ensures)

pub returns-in_err-add_names : goal.returns-in_err-add_names
returns-in_err-add_names g c = sends_err _ _ _ _ _ _ c.from_residual-in_err-add_names.ensures.0
    (let p = c.args.program.now in
    let outputs = map (λ v. v.title) (filter is_output p.decls.vars) in
    let columns = map (column_name p.decls) c.args.watched.now in
    sends_prefix _ _ _ _ _ (watched_header p c.args.watched.now) (codes "moment") (after_commas outputs) (after_commas columns ++ codes "\n")
    (parted (codes "moment") outputs columns) c.in_ok-add.ensures
    (rw (c.vars.ensures.value, c.decls.ensures) at c.in_err-add_names.ensures))

pub returns-in_err-add_column_names : goal.returns-in_err-add_column_names
returns-in_err-add_column_names g c = sends_err _ _ _ _ _ _ c.from_residual-in_err-add_column_names.ensures.0
    (let p = c.args.program.now in
    let outputs = map (λ v. v.title) (filter is_output p.decls.vars) in
    let columns = map (column_name p.decls) c.args.watched.now in
    sends_prefix _ _ _ _ _ (watched_header p c.args.watched.now) (codes "moment" ++ after_commas outputs) (after_commas columns) (codes "\n")
    (parted_between (codes "moment") outputs columns)
    (sends_more _ _ _ _ _ _ (codes "moment") (after_commas outputs) c.in_ok-add.ensures (rw (c.vars.ensures.value, c.decls.ensures) at c.in_ok-add_names.ensures))
    (rw c.decls-2.ensures at c.in_err-add_column_names.ensures))

pub returns : goal.returns
returns g c =
    let p = c.args.program.now in
    let outputs = map (λ v. v.title) (filter is_output p.decls.vars) in
    let columns = map (column_name p.decls) c.args.watched.now in
    sends_last _ _ _ _ _ _ (watched_header p c.args.watched.now) ((codes "moment" ++ after_commas outputs) ++ after_commas columns) (codes "\n") _
    (parted_behind (codes "moment") outputs columns)
    (sends_more _ _ _ _ _ _ (codes "moment" ++ after_commas outputs) (after_commas columns)
    (sends_more _ _ _ _ _ _ (codes "moment") (after_commas outputs) c.in_ok-add.ensures (rw (c.vars.ensures.value, c.decls.ensures) at c.in_ok-add_names.ensures))
    (rw c.decls-2.ensures at c.in_ok-add_column_names.ensures)) c.add-2.ensures
