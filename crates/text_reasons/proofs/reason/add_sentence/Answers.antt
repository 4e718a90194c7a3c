use Rattle.std.proofs.Common.{◌++◌, codes, refl}
use Rattle.io_text.proofs.Sending.{sends_last}
use Rattle.text_reasons.proofs.Quoting.{first_failed}
use Rattle.text_reasons.proofs.reason.add_sentence.Goals as goal

pub returns-in_err-add : goal.returns-in_err-add
returns-in_err-add g c = first_failed _ _ _ _ (c.args.sentence.now ++ codes "\n") (c.args.sentence.now) (codes "\n") _ c.from_residual.ensures.0 refl c.in_err-add.ensures

pub returns : goal.returns
returns g c = sends_last _ _ _ _ _ _ (c.args.sentence.now ++ codes "\n") (c.args.sentence.now) (codes "\n") _ refl c.in_ok-add.ensures c.add-2.ensures
