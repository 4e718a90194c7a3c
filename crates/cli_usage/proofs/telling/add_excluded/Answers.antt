use Rattle.std.proofs.Common.{◌++◌, codes, option_map, refl}
use Rattle.io_text.proofs.Sending.{sends_last}
use Rattle.cli_usage.specs.Rules.{found_text}
use Rattle.cli_usage.proofs.Parts.{first_failed}
use Rattle.cli_usage.proofs.telling.add_excluded.Goals as goal

pub returns-in_err-add : goal.returns-in_err-add
returns-in_err-add g c =
    let found = found_text (option_map (λ t. t.now) c.args.excluded) in
    first_failed _ _ _ _ (codes " excludes " ++ found) (codes " excludes ") found _ c.from_residual.ensures.0 refl c.in_err-add.ensures

pub returns : goal.returns
returns g c =
    let found = found_text (option_map (λ t. t.now) c.args.excluded) in
    sends_last _ _ _ _ _ _ (codes " excludes " ++ found) (codes " excludes ") found _ refl c.in_ok-add.ensures c.add_found.ensures
