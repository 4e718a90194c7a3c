-- How the judging of two programs over runs ends, by what was written of them.
use Rattle.std.proofs.Common.{◌≡◌, Bool, Err, List, Ok, Option, Result, ℕ, None, Some, inl, inr, refl, subst, sym}
use Rattle.std.specs.Prelude.{IfErr, IfOk}
use Rattle.diagram_program.specs.Program.{Drawing}
use Rattle.diagram_reader.specs.Titled.{HasProgram}
use Rattle.diff_matching.specs.Matching.{Matching}
use Rattle.diff_run_verdicts.proofs.Nothing.{found_of_all, true_of_all}
use Rattle.diff_run_verdicts.specs.declared.findings.RunFindings.{RunFindings}
use Rattle.diff_runs.specs.Laws.{AreAssumedAlways}
use Rattle.io_text.specs.Log.{PutsAll, PutsPrefix, WriteLog}
use Rattle.cli_arguments.specs.declared.request.DiffRunsRequest.{DiffRunsRequest}
use Rattle.cli_inputs.specs.Reports.{IsReportedBy, Logs, logs}
use Rattle.cli_inputs.specs.Setting.{Given}
use Rattle.cli_inputs.specs.declared.fault.ToolFault.{ToolFault}
use Rattle.cli_questions.specs.declared.counting.ListCounts.{ListCounts}
use Rattle.cli_questions.specs.Ending.{Ends, counts_line, unless_quiet}
use Rattle.cli_verdicts.specs.Together.{HasAssumedFault, IsAssumedWhere}
use Rattle.cli_diff.specs.Assumed.{Assumption}
use Rattle.cli_diff.specs.Ending.{RefusesOf}
use Rattle.cli_diff.specs.Faults.{given_of}
use Rattle.cli_diff.specs.declared.sided.SidedFault.{SidedFault}
use Rattle.cli_verdicts.specs.Ending.{HasTextFault}
use Rattle.cli_run_verdicts.specs.Assuming.{RunsAssumption, in_runs}
use Rattle.cli_run_verdicts.specs.Ending.{CountsRuns, FailsToFindRuns, FailsToJudgeRuns, FailsToWriteRuns, FindsInRunsAssuming, FindsInRunsWhere, FindsKeepingAsked, FindsKeepingAssuming, FindsKeepingWhere, HasRunsFault, KeepsRuns, WritesKeeping, assumes_of}
use Rattle.cli_run_verdicts.specs.Judged.{JudgedInRuns}
use Rattle.cli_run_verdicts.specs.declared.writing.Kept.{Kept}
use Rattle.cli_run_verdicts.specs.declared.writing.Written.{Written}

-- What was written is kept, once its counts are told.
kept_so : (a : RunsAssumption) (quiet : Bool) (p q : Drawing) (written : Written) (o o' s s' : WriteLog) (kept : Kept)
    → WritesKeeping a p q written.kept.matching written.kept.found o o' written.counts → kept ≡ written.kept
    → PutsAll s s' (unless_quiet quiet (counts_line written.counts)) → Ends (FindsKeepingAssuming a p q kept.matching kept.found) quiet o o' (PutsAll s s')
kept_so a quiet p q written o o' s s' kept wrote same told =
    subst (λ (k : Kept). Ends (FindsKeepingAssuming a p q k.matching k.found) quiet o o' (PutsAll s s')) (sym same)
    (record { text = wrote.0; counts = written.counts; is = wrote.1; put = wrote.2; counted = told })

pub ends_kept : (a : RunsAssumption) (quiet : Bool) (p q : Drawing) (written : Written) (o o' s s' : WriteLog) (r : Result Kept ℕ)
    → WritesKeeping a p q written.kept.matching written.kept.found o o' written.counts
    → IfOk r (λ kept. (kept ≡ written.kept) × PutsAll s s' (unless_quiet quiet (counts_line written.counts)))
    → IfOk r (λ kept. Ends (FindsKeepingAssuming a p q kept.matching kept.found) quiet o o' (PutsAll s s'))
ends_kept a quiet p q written o o' s s' (Ok kept) wrote told = kept_so a quiet p q written o o' s s' kept wrote told.0 told.1
ends_kept a quiet p q written o o' s s' (Err status) wrote told = told

module _ (a : RunsAssumption) (g h : Given) (r : DiffRunsRequest) (p q : Drawing) where
  -- Nothing was written, or a prefix.
  pub broken : (f : ToolFault) (save o o' s s' : WriteLog) → FailsToWriteRuns a p q o o' f → IsReportedBy None g s s' f
      → FailsToFindRuns a g h r p q (logs o save s) (logs o' save s')
  broken f save o o' s s' (inl fails) said =
      inl (record { side = None; reason = f; has = fails.0; unwritten = fails.1; unsaved = refl {a = save}; reported = said })
  broken f save o o' s s' (inr fails) said =
      inr (inl (fails.1.0, fails.1.1, fails.1.2, subst (λ (x : ToolFault). IsReportedBy None g s s' x) fails.0 said))

  -- All was written, and the line of counts broke off.
  uncounted : (written : Written) (save o o' s s' : WriteLog) → WritesKeeping a p q written.kept.matching written.kept.found o o' written.counts
      → PutsPrefix s s' (unless_quiet r.quiet (counts_line written.counts)) → FailsToFindRuns a g h r p q (logs o save s) (logs o' save s')
  uncounted written save o o' s s' wrote cut =
      inr (inr (record { text = wrote.0; counts = written.counts; is = wrote.1.0; put = wrote.2; counted = cut }))

  pub uncounted_in : (written : Written) (save o o' s s' : WriteLog) (result : Result Kept ℕ)
      → WritesKeeping a p q written.kept.matching written.kept.found o o' written.counts
      → IfErr result (λ status. PutsPrefix s s' (unless_quiet r.quiet (counts_line written.counts)))
      → IfErr result (λ status. FailsToFindRuns a g h r p q (logs o save s) (logs o' save s'))
  uncounted_in written save o o' s s' (Ok kept) wrote told = told
  uncounted_in written save o o' s s' (Err status) wrote told = uncounted written save o o' s s' wrote told

-- A fault of the texts is one of what is asked.
pub text_refused : (g h : Given) (r : DiffRunsRequest) (s t : Logs) → RefusesOf g h (HasTextFault g h) s t → RefusesOf g h (HasRunsFault g h r) s t
text_refused g h r s t refused = record {
  side = refused.side;
  reason = refused.reason;
  has = inl refused.has;
  unwritten = refused.unwritten;
  unsaved = refused.unsaved;
  reported = refused.reported;
}

-- ---- what is found, by what is assumed

module _ (p q : Drawing) (always : AreAssumedAlways p q) where
  found_where : (a : Option Assumption) (text : List ℕ) (n : Option ListCounts) → FindsInRunsAssuming (in_runs a) p q text n → FindsInRunsWhere a p q text n
  found_where None text n f = record {
    matching = f.matching;
    verdicts = f.verdicts;
    names = f.names;
    judged = true_of_all f.matching p q always f.verdicts f.judged;
    written = f.written;
    counted = f.counted;
  }
  found_where (Some a) text n f = f

  kept_where : (a : Option Assumption) (m : Matching) (found : RunFindings) (text : List ℕ) (n : Option ListCounts)
      → FindsKeepingAssuming (in_runs a) p q m found text n → FindsKeepingWhere a p q m found text n
  unfolding found_where
  kept_where None m found text n kept = (found_where None text n kept.0, kept.1, found_of_all m p q always found kept.2, kept.3)
  kept_where (Some a) m found text n kept = kept

-- What is kept was found.
kept_found : (a : Option Assumption) (p q : Drawing) (m : Matching) (found : RunFindings) (text : List ℕ) (n : Option ListCounts)
    → FindsKeepingWhere a p q m found text n → FindsInRunsWhere a p q text n
kept_found None p q m found text n kept = kept.0
kept_found (Some a) p q m found text n kept = kept.0

-- Two programs that texts describe.
module _ (g h : Given) (r : DiffRunsRequest) (p q : Drawing) (old : HasProgram g.aliases g.program p) (new : HasProgram h.aliases h.program q) where
  -- What is assumed of them is refused.
  pub assumed_refused : (fault : SidedFault) (out save s s' : WriteLog) → HasAssumedFault fault.side g h (assumes_of r) p q fault.fault
      → IsReportedBy fault.side (given_of fault.side g h) s s' fault.fault → FailsToJudgeRuns g h r (logs out save s) (logs out save s')
  assumed_refused fault out save s s' has said = inl (record {
    side = fault.side;
    reason = fault.fault;
    has = inr (p, q, old, new, has);
    unwritten = refl {a = out};
    unsaved = refl {a = save};
    reported = said;
  })

  -- What is found where this is assumed is what is asked for where the request assumes it.
  module _ (always : AreAssumedAlways p q) (a : Option Assumption) (is : IsAssumedWhere g h (assumes_of r) p q a) where
    pub ends_asked : (o o' s s' : WriteLog) (result : Result Kept ℕ)
        → IfOk result (λ kept. Ends (FindsKeepingAssuming (in_runs a) p q kept.matching kept.found) r.quiet o o' (PutsAll s s'))
        → IfOk result (λ kept. Ends (FindsKeepingAsked g h r p q kept.matching kept.found) r.quiet o o' (PutsAll s s'))
    ends_asked o o' s s' (Ok kept) ends = record {
      text = ends.text;
      counts = ends.counts;
      is = record { assumption = a; assumed = is; kept = kept_where p q always a kept.matching kept.found ends.text (Some ends.counts) ends.is };
      put = ends.put;
      counted = ends.counted;
    }
    ends_asked o o' s s' (Err status) ends = ends

    asked_of : (s t : Logs) → FailsToFindRuns (in_runs a) g h r p q s t → FailsToJudgeRuns g h r s t
    asked_of s t (inl refused) = inl (text_refused g h r s t refused)
    asked_of s t (inr (inl cut)) = inr (inl (cut.0, (p, q, old, new, record { assumption = a; assumed = is; found = found_where p q always a cut.0 None cut.1 }), cut.2, cut.3))
    asked_of s t (inr (inr ends)) = inr (inr (record {
      text = ends.text;
      counts = ends.counts;
      is = (p, q, old, new, record { assumption = a; assumed = is; found = found_where p q always a ends.text (Some ends.counts) ends.is });
      put = ends.put;
      counted = ends.counted;
    }))

    pub fails_asked : (s t : Logs) (result : Result Kept ℕ) → IfErr result (λ status. FailsToFindRuns (in_runs a) g h r p q s t)
        → IfErr result (λ status. FailsToJudgeRuns g h r s t)
    fails_asked s t (Ok kept) fails = fails
    fails_asked s t (Err status) fails = asked_of s t fails

-- What is kept of two programs, whose texts were read.
module _ (g h : Given) (r : DiffRunsRequest) (j : JudgedInRuns) (o o' : WriteLog) (Put : List ℕ → Type 0)
    (old : HasProgram g.aliases g.program j.old) (new : HasProgram h.aliases h.program j.new)
    (ends : Ends (FindsKeepingAsked g h r j.old j.new j.matching j.found) r.quiet o o' Put) where
  pub counts_runs : CountsRuns g h r o o' Put
  counts_runs = record {
    text = ends.text;
    counts = ends.counts;
    is = (
      j.old,
      j.new,
      old,
      new,
      record {
        assumption = ends.is.assumption;
        assumed = ends.is.assumed;
        found = kept_found ends.is.assumption j.old j.new j.matching j.found ends.text (Some ends.counts) ends.is.kept;
      },
    );
    put = ends.put;
    counted = ends.counted;
  }

  pub keeps_runs : KeepsRuns g h r j o o' Put
  keeps_runs = record { text = ends.text; counts = ends.counts; is = (old, new, ends.is); put = ends.put; counted = ends.counted }
