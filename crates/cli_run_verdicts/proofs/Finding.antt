-- What is found, written whole or in part.
use Rattle.std.proofs.Common.{◌≡◌, ◌∙◌, Err, IfErr, IfOk, List, Ok, Option, Result, ℕ, ap, inl, inr, refl, subst}
use Rattle.diagram_program.specs.Program.{Drawing}
use Rattle.diff_matching.specs.Matching.{Matching}
use Rattle.diff_matching.specs.Names.{IsByNames}
use Rattle.diff_meaning.specs.declared.verdict.Verdicts.{Verdicts}
use Rattle.diff_findings.specs.Findings.{findings}
use Rattle.diff_findings.specs.declared.finding.Finding.{Finding}
use Rattle.diff_run_verdicts.specs.RunVerdicts.{AreFoundAssuming, AreTrueOfRunsAssuming}
use Rattle.diff_run_verdicts.specs.Telling.{AreToldOf}
use Rattle.diff_run_verdicts.specs.declared.findings.RunFindings.{RunFindings}
use Rattle.text_findings.specs.FindingText.{findings_text}
use Rattle.io_text.specs.Log.{PutsAll, WriteLog}
use Rattle.cli_inputs.specs.declared.fault.ToolFault.{ToolFault}
use Rattle.cli_questions.specs.declared.counting.ListCounts.{ListCounts}
use Rattle.cli_run_verdicts.specs.Assuming.{RunsAssumption, run_counts}
use Rattle.cli_run_verdicts.specs.Ending.{FailsToWriteRuns, WritesKeeping, WritesTold}

module _ (expressions : Option ℕ) (p q : Drawing) (m : Matching) (v : Verdicts) (list : List Finding) (o o' : WriteLog) (same : list ≡ findings p q m v) where
  pub listed : (n : ListCounts) → n ≡ run_counts expressions list → PutsAll o o' (findings_text p q list) → WritesTold expressions p q m v o o' (Ok n)
  listed n counted put = (
    subst (λ (l : List Finding). PutsAll o o' (findings_text p q l)) same put,
    counted ∙ ap (λ (l : List Finding). run_counts expressions l) same,
  )

module _ (a : RunsAssumption) (p q : Drawing) (m : Matching) (found : RunFindings) (v : Verdicts) (o o' : WriteLog)
    (names : IsByNames m p q) (are : AreFoundAssuming a.both m p q found) (told : AreToldOf found v) (judged : AreTrueOfRunsAssuming a.both m p q v) where
  pub found_all : (r : Result ListCounts ToolFault) → WritesTold a.expressions p q m v o o' r → IfOk r (WritesKeeping a p q m found o o')
  found_all (Ok n) written = (
    findings_text p q (findings p q m v),
    (record { matching = m; verdicts = v; names = names; judged = judged; written = refl; counted = written.1 }, refl, are, told),
    written.0,
  )
  found_all (Err f) written = tt

  pub found_some : (r : Result ListCounts ToolFault) → WritesTold a.expressions p q m v o o' r → IfErr r (FailsToWriteRuns a p q o o')
  found_some (Ok n) written = tt
  found_some (Err f) (inl h) = inl h
  found_some (Err f) (inr h) = inr (
    h.0,
    (
      findings_text p q (findings p q m v),
      record { matching = m; verdicts = v; names = names; judged = judged; written = refl; counted = tt },
      h.1,
    ),
  )
