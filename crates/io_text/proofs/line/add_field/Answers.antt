use Rattle.std.proofs.Common.{◌++◌, [], codes, refl}
use Rattle.io_text.proofs.Sending.{sends_prefix, sends_last, sends_none, sends_err}
use Rattle.io_text.proofs.line.add_field.Goals as goal

pub returns-in_err-add : goal.returns-in_err-add
returns-in_err-add g c = sends_err _ _ _ _ _ _ c.from_residual.ensures.0
    (let field = c.args.field.now in
    sends_prefix _ _ _ c.args.buffer.now c.args.buffer.now (codes "," ++ field) [] (codes ",") field refl (sends_none _ c.args.buffer.now) c.in_err-add.ensures)

pub returns : goal.returns
returns g c = let field = c.args.field.now in sends_last _ _ _ _ _ _ (codes "," ++ field) (codes ",") field _ refl c.in_ok-add.ensures c.add-2.ensures
