use Rattle.std.proofs.Common.{◌++◌, codes, map, refl, take}
use Rattle.io_text.proofs.Sending.{sends_last}
use Rattle.text_reasons.specs.Reasons.{numbered, quoted, quoted_byte}
use Rattle.text_reasons.specs.declared.quote.TheConstants.{WIDTH}
use Rattle.text_reasons.proofs.Quoting.{first_failed}
use Rattle.text_reasons.proofs.quote.add_line.Goals as goal

pub returns-in_err-add_number : goal.returns-in_err-add_number
returns-in_err-add_number g c = first_failed _ _ _ _ (quoted c.args.is_it c.args.number c.args.line.now) (numbered c.args.is_it c.args.number) (map quoted_byte (take WIDTH c.args.line.now) ++ codes "\n") _ c.from_residual.ensures.0 refl c.in_err-add_number.ensures

pub returns : goal.returns
returns g c = sends_last _ _ _ _ _ _ (quoted c.args.is_it c.args.number c.args.line.now) (numbered c.args.is_it c.args.number) (map quoted_byte (take WIDTH c.args.line.now) ++ codes "\n") _ refl c.in_ok-add_number.ensures c.add_end.ensures
