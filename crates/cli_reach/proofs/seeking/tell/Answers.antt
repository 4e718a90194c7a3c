use Rattle.std.proofs.Common.{inr}
use Rattle.cli_reach.specs.Telling.{step}
use Rattle.cli_reach.proofs.seeking.tell.Goals as goal

pub returns : goal.returns
returns g c =
    let progress = c.progress-progress.result in
    inr (step progress.states progress.scans, c.if-not-lines.false, c.progress-progress.ensures, c.put_step.ensures)
