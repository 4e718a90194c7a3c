use Rattle.std.proofs.Common.{◌++◌, ap, codes, map, sym}
use Rattle.io_text.proofs.Sending.{sends_last}
use Rattle.text_reasons.specs.Reasons.{quoted_byte}
use Rattle.text_reasons.proofs.Quoting.{first_failed}
use Rattle.text_reasons.proofs.quote.add_end.Goals as goal

pub returns-in_err-add_bytes : goal.returns-in_err-add_bytes
returns-in_err-add_bytes g c =
    first_failed _ _ _ _ _ (map quoted_byte c.start.result.now) (codes "\n") _ c.from_residual.ensures.0
    (sym (ap (λ line. map quoted_byte line ++ codes "\n") c.start.ensures)) c.in_err-add_bytes.ensures

pub returns : goal.returns
returns g c = sends_last _ _ _ _ _ _ _ (map quoted_byte c.start.result.now) (codes "\n") _
    (sym (ap (λ line. map quoted_byte line ++ codes "\n") c.start.ensures)) c.in_ok-add_bytes.ensures c.add.ensures
