-- What is told where neither search found a run is so of the two programs.
use Rattle.std.proofs.Common.{arith, true, false, List, Option, ℕ}
use Rattle.st_expression.specs.declared.expression.Expression.{Expression}
use Rattle.diagram_program.specs.Program.{Drawing}
use Rattle.diff_matching.specs.Matching.{Matching}
use Rattle.diff_runs.specs.Asking.{AreIn, question}
use Rattle.diff_runs.specs.Assuming.{Assumptions}
use Rattle.diff_runs.specs.Beside.{AreBeside}
use Rattle.diff_runs.specs.Laws.{AreJoined, NeverShownWhereNeverOn, NotShownWhereStaysOff}
use Rattle.diff_runs.specs.declared.symbols.TwoSymbols.{TwoSymbols}
use Rattle.diff_search.specs.Differences.{AreBothOff, IsTrueInRunsAssuming}
use Rattle.diff_search.specs.declared.difference.RunDifference.{RunDifference}
use Rattle.diff_search.specs.declared.difference.RunDifference.TheVariants.{Never, Open, Shown}

pub told : (m of_old of_new : Matching) (p q b : Drawing) → NeverShownWhereNeverOn p q b → NotShownWhereStaysOff p q b
    → AreBeside m of_old of_new p q b → (x there : TwoSymbols) → AreIn of_old of_new x there
    → (a : Assumptions) (olds news : List ℕ) (joint : Option Expression) → AreJoined a of_old of_new p q b olds news joint
    → (d : RunDifference) → AreBothOff (question b there true joint) (question b there false joint) d → IsTrueInRunsAssuming a m p q x d
told m of_old of_new p q b never few beside x there are_in a olds news joint are (Shown runs) off = absurd off
told m of_old of_new p q b never few beside x there are_in a olds news joint are Never off =
    never m of_old of_new beside x there are_in a olds news joint are off.0 off.1
told m of_old of_new p q b never few beside x there are_in a olds news joint are (Open most) off =
    λ scans some within runs assumed.
    few m of_old of_new beside x there are_in a olds news joint are most most off.0 off.1 scans some (omega (arith, within)) runs assumed
