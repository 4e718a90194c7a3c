use Rattle.std.proofs.Common.{◌-◌, refl}
use Rattle.io_text.proofs.Sending.{sends_last}
use Rattle.text_reasons.specs.Names.{alias_text, length_text, long_text, own_type, whose}
use Rattle.text_reasons.proofs.Quoting.{first_failed}
use Rattle.text_reasons.proofs.names.add_long.Goals as goal

pub returns-in_err-add_length : goal.returns-in_err-add_length
returns-in_err-add_length g c = first_failed _ _ _ _ (long_text c.args.word.now c.args.kind.now c.args.longest) (length_text c.args.word.now (whose c.args.longest) (own_type c.args.kind.now c.args.longest) c.args.longest) (alias_text c.args.word.now c.args.longest) _ c.from_residual.ensures.0 refl (rw (c.whose.ensures, c.own_type.ensures) at c.in_err-add_length.ensures)

pub returns : goal.returns
returns g c = sends_last _ _ _ _ _ _ (long_text c.args.word.now c.args.kind.now c.args.longest) (length_text c.args.word.now (whose c.args.longest) (own_type c.args.kind.now c.args.longest) c.args.longest) (alias_text c.args.word.now c.args.longest) _ refl (rw (c.whose.ensures, c.own_type.ensures) at c.in_ok-add_length.ensures) c.add_alias.ensures
