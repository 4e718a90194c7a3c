use Rattle.std.proofs.Common.{◌+◌, ◌-◌, false, sym, arith}
use Rattle.std.proofs.lemmas.Bool.{true≢false}
use Rattle.std.proofs.lemmas.List.{get_or-replicate}
use Rattle.diagram_program.specs.declared.geometry.TheConstants.{COLUMNS, ROWS}
use Rattle.text_warnings.specs.Decided.{no_route}
use Rattle.text_warnings.proofs.leading.leading.Goals as goal

pub loop-behind-init : goal.loop-behind-init
loop-behind-init c row h = rw (get_or-replicate ROWS row false false h) (
  λ f. absurd (true≢false (sym f)),
  λ route. absurd (no_route c.args.program.now c.args.rung row (COLUMNS - (0 + 1)) (omega arith) route),
)
