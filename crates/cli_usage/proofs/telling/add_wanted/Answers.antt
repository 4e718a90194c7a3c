use Rattle.std.proofs.Common.{◌++◌, codes, refl}
use Rattle.io_text.proofs.Sending.{sends_last}
use Rattle.cli_usage.specs.Rules.{joined}
use Rattle.cli_usage.proofs.Parts.{first_failed}
use Rattle.cli_usage.proofs.telling.add_wanted.Goals as goal

pub returns-in_err-add : goal.returns-in_err-add
returns-in_err-add g c = first_failed _ _ _ _ (codes " wants " ++ joined (codes " or ") c.args.wanted.now) (codes " wants ") (joined (codes " or ") c.args.wanted.now) _ c.from_residual.ensures.0 refl c.in_err-add.ensures

pub returns : goal.returns
returns g c = sends_last _ _ _ _ _ _ (codes " wants " ++ joined (codes " or ") c.args.wanted.now) (codes " wants ") (joined (codes " or ") c.args.wanted.now) _ refl c.in_ok-add.ensures c.add_joined.ensures
