-- Where nothing is assumed, what is so of runs in each scan of which it is true is so of all runs.
use Rattle.std.proofs.Common.{List}
use Rattle.diagram_program.specs.Program.{Drawing}
use Rattle.diff_matching.specs.Matching.{Matching}
use Rattle.diff_meaning.specs.declared.verdict.Verdict.{Verdict}
use Rattle.diff_meaning.specs.declared.verdict.Verdict.TheVariants.{Same, Differs, Unsettled}
use Rattle.diff_meaning.specs.declared.verdict.Verdicts.{Verdicts}
use Rattle.diff_runs.specs.Assuming.{nothing}
use Rattle.diff_runs.specs.Laws.{AreAssumedAlways}
use Rattle.diff_runs.specs.declared.symbols.TwoSymbols.{TwoSymbols}
use Rattle.diff_search.specs.Differences.{IsTrueInRuns, IsTrueInRunsAssuming}
use Rattle.diff_search.specs.declared.difference.RunDifference.{RunDifference}
use Rattle.diff_search.specs.declared.difference.RunDifference.TheVariants.{Never, Open, Shown}
use Rattle.diff_run_verdicts.specs.RunVerdicts.{AreFound, AreFoundAssuming, AreOfPairs, AreTrueOfRuns, AreTrueOfRunsAssuming, IsTrueOfRuns, IsTrueOfRunsAssuming}
use Rattle.diff_run_verdicts.specs.declared.findings.RunFindings.{RunFindings}
use Rattle.diff_run_verdicts.specs.declared.names.NameSort.{NameSort}

pairs_there : {T : Type 0} (Is Are : TwoSymbols → T → Type 0) → ((x : TwoSymbols) (item : T) → Is x item → Are x item) → (m : Matching) (sort : NameSort) (list : List T)
    → AreOfPairs Is m sort list → AreOfPairs Are m sort list
pairs_there Is Are there m sort list are = record {
  as_many = are.as_many;
  each = λ n x item pair got. there _ item (are.each n x item pair got);
}

module _ (m : Matching) (p q : Drawing) (always : AreAssumedAlways p q) where
  verdict_there : (x : TwoSymbols) (verdict : Verdict) → IsTrueOfRunsAssuming nothing m p q x verdict → IsTrueOfRuns m p q x verdict
  verdict_there x Same never = λ scans some runs. never scans some runs (always scans)
  verdict_there x (Differs a b) some = (some.0, (some.1.0, some.1.1.shows))
  verdict_there x Unsettled none = tt

  found_there : (x : TwoSymbols) (found : RunDifference) → IsTrueInRunsAssuming nothing m p q x found → IsTrueInRuns m p q x found
  found_there x (Shown runs) shown = shown.showing
  found_there x Never never = λ scans some runs. never scans some runs (always scans)
  found_there x (Open most) few = λ scans some within runs. few scans some within runs (always scans)

  pub true_of_all : (verdicts : Verdicts) → AreTrueOfRunsAssuming nothing m p q verdicts → AreTrueOfRuns m p q verdicts
  true_of_all verdicts are = record {
    variables = pairs_there (IsTrueOfRunsAssuming nothing m p q) (IsTrueOfRuns m p q) verdict_there m _ _ are.variables;
    instances = pairs_there (IsTrueOfRunsAssuming nothing m p q) (IsTrueOfRuns m p q) verdict_there m _ _ are.instances;
    memories = are.memories;
  }

  pub found_of_all : (found : RunFindings) → AreFoundAssuming nothing m p q found → AreFound m p q found
  found_of_all found are = record {
    variables = pairs_there (IsTrueInRunsAssuming nothing m p q) (IsTrueInRuns m p q) found_there m _ _ are.variables;
    instances = pairs_there (IsTrueInRunsAssuming nothing m p q) (IsTrueInRuns m p q) found_there m _ _ are.instances;
  }
