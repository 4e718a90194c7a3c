use Rattle.std.proofs.Common.{◌++◌, codes, refl}
use Rattle.io_text.proofs.Sending.{sends_last}
use Rattle.cli_usage.specs.Rules.{out_of, rule_text}
use Rattle.cli_usage.proofs.Parts.{first_failed}
use Rattle.cli_usage.proofs.telling.add_line.Goals as goal

pub returns-in_err-add_rule : goal.returns-in_err-add_rule
returns-in_err-add_rule g c = first_failed _ _ _ _ (rule_text (out_of c.args.broken.now) ++ codes "\n") (rule_text (out_of c.args.broken.now)) (codes "\n") _ c.from_residual.ensures.0 refl c.in_err-add_rule.ensures

pub returns : goal.returns
returns g c = sends_last _ _ _ _ _ _ (rule_text (out_of c.args.broken.now) ++ codes "\n") (rule_text (out_of c.args.broken.now)) (codes "\n") _ refl c.in_ok-add_rule.ensures c.add.ensures
