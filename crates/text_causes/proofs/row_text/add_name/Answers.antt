use Rattle.std.proofs.Common.{◌++◌, [], codes, refl, slice_get}
use Rattle.text_causes.specs.Rows.{name_in}
use Rattle.io_text.proofs.Sending.{sends_prefix, sends_last, sends_none, sends_err}
use Rattle.text_causes.proofs.row_text.add_name.Goals as goal

pub returns-in_err-add : goal.returns-in_err-add
returns-in_err-add g c = sends_err _ _ _ _ _ _ c.from_residual.ensures.0
    (let name = name_in (slice_get c.args.decls.now.vars c.args.var) in
    sends_prefix _ _ _ c.args.buffer.now c.args.buffer.now (codes "," ++ name) [] (codes ",") name refl (sends_none _ c.args.buffer.now) c.in_err-add.ensures)

pub returns : goal.returns
returns g c =
    let name = name_in (slice_get c.args.decls.now.vars c.args.var) in
    sends_last _ _ _ _ _ _ (codes "," ++ name) (codes ",") name _ refl c.in_ok-add.ensures (rw c.name_bytes.ensures at c.add-2.ensures)
