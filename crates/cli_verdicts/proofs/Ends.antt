-- How the judging of two programs ends, by what was written of them.
use Rattle.std.proofs.Common.{◌≡◌, Bool, Err, List, Ok, Option, Result, ℕ, None, Some, inl, inr, refl, subst, sym}
use Rattle.std.specs.Prelude.{IfErr, IfOk}
use Rattle.diagram_program.specs.Program.{Drawing}
use Rattle.diagram_reader.specs.Titled.{HasProgram}
use Rattle.diff_matching.specs.Matching.{Matching}
use Rattle.diff_meaning.specs.declared.witness.Witness.{Witness}
use Rattle.io_text.specs.Log.{PutsAll, PutsPrefix, WriteLog}
use Rattle.cli_arguments.specs.declared.request.VerdictRequest.{VerdictRequest}
use Rattle.cli_inputs.specs.Reports.{IsReportedBy, logs}
use Rattle.cli_inputs.specs.Setting.{Given}
use Rattle.cli_inputs.specs.declared.fault.ToolFault.{ToolFault}
use Rattle.cli_questions.specs.Ending.{Ends, counts_line, unless_quiet}
use Rattle.cli_questions.specs.declared.counting.ListCounts.{ListCounts}
use Rattle.cli_assumed_both.specs.Together.{IsAssumedWhere}
use Rattle.cli_diff.specs.Assumed.{Assumption}
use Rattle.cli_verdicts.specs.Ending.{FailsToJudge, FailsToWrite, FindsAsked, FindsKept, FindsWhere, Judges, WritesKept, assumes_of, assumption_of}
use Rattle.cli_verdicts.specs.declared.assuming.AssumedOfBoth.{AssumedOfBoth}
use Rattle.cli_verdicts.specs.declared.writing.Kept.{Kept}
use Rattle.cli_verdicts.specs.declared.writing.Written.{Written}

-- What is kept was found.
found_of : (a : Option Assumption) (keeps reachable : Bool) (p q : Drawing) (m : Matching) (witnesses : List Witness) (text : List ℕ) (n : Option ListCounts)
    → FindsKept a keeps reachable p q m witnesses text n → FindsWhere a reachable p q text n
found_of None keeps reachable p q m witnesses text n found = found.0
found_of (Some a) keeps reachable p q m witnesses text n found = found.0

module _ (g h : Given) (r : VerdictRequest) (p q : Drawing) where
  -- What is kept is of what was found.
  pub ends_judged : HasProgram g.aliases g.program p → HasProgram h.aliases h.program q → (keeps : Bool) (m : Matching) (witnesses : List Witness) (o o' : WriteLog)
      (Written : List ℕ → Type 0) → Ends (FindsAsked g h r keeps p q m witnesses) r.quiet o o' Written → Ends (Judges g h r) r.quiet o o' Written
  ends_judged old new keeps m witnesses o o' Written ends = record {
    text = ends.text;
    counts = ends.counts;
    is = (p, q, old, new, ends.is.0, ends.is.1, found_of ends.is.0 keeps r.reachable p q m witnesses ends.text (Some ends.counts) ends.is.2);
    put = ends.put;
    counted = ends.counted;
  }

  module _ (a : Option AssumedOfBoth) (assumed : IsAssumedWhere g h (assumes_of r) p q (assumption_of a)) where
    -- What was written is kept, once its counts are told.
    kept_so : (keeps : Bool) (looks : ℕ) (written : Written) (o o' s s' : WriteLog) (kept : Kept)
        → WritesKept (record { looks = looks; reachable = r.reachable; keeps = keeps; assumed = a }) p q written.kept.matching o o' written.kept.witnesses.items written.counts
        → kept ≡ written.kept → PutsAll s s' (unless_quiet r.quiet (counts_line written.counts))
        → Ends (FindsAsked g h r keeps p q kept.matching kept.witnesses.items) r.quiet o o' (PutsAll s s')
    kept_so keeps looks written o o' s s' kept wrote same told =
        subst (λ (k : Kept). Ends (FindsAsked g h r keeps p q k.matching k.witnesses.items) r.quiet o o' (PutsAll s s')) (sym same)
        (record { text = wrote.0; counts = written.counts; is = (assumption_of a, assumed, wrote.1); put = wrote.2; counted = told })

    pub ends_kept : (keeps : Bool) (looks : ℕ) (written : Written) (o o' s s' : WriteLog) (result : Result Kept ℕ)
        → WritesKept (record { looks = looks; reachable = r.reachable; keeps = keeps; assumed = a }) p q written.kept.matching o o' written.kept.witnesses.items written.counts
        → IfOk result (λ kept. (kept ≡ written.kept) × PutsAll s s' (unless_quiet r.quiet (counts_line written.counts)))
        → IfOk result (λ kept. Ends (FindsAsked g h r keeps p q kept.matching kept.witnesses.items) r.quiet o o' (PutsAll s s'))
    ends_kept keeps looks written o o' s s' (Ok kept) wrote told = kept_so keeps looks written o o' s s' kept wrote told.0 told.1
    ends_kept keeps looks written o o' s s' (Err status) wrote told = told

    module _ (old : HasProgram g.aliases g.program p) (new : HasProgram h.aliases h.program q) where
      -- Nothing was written, or a prefix.
      pub broken : (f : ToolFault) (save o o' s s' : WriteLog) → FailsToWrite (assumption_of a) r.reachable p q o o' f → IsReportedBy None g s s' f
          → FailsToJudge g h r (logs o save s) (logs o' save s')
      broken f save o o' s s' (inl fails) said =
          inl (record { side = None; reason = f; has = inl fails.0; unwritten = fails.1; unsaved = refl {a = save}; reported = said })
      broken f save o o' s s' (inr fails) said = inr (inl (
        fails.1.0,
        (p, q, old, new, assumption_of a, assumed, fails.1.1),
        fails.1.2,
        subst (λ (x : ToolFault). IsReportedBy None g s s' x) fails.0 said,
      ))

      -- All was written, and the line of counts broke off.
      uncounted : (keeps : Bool) (looks : ℕ) (m : Matching) (witnesses : List Witness) (n : ListCounts) (save o o' s s' : WriteLog)
          → WritesKept (record { looks = looks; reachable = r.reachable; keeps = keeps; assumed = a }) p q m o o' witnesses n
          → PutsPrefix s s' (unless_quiet r.quiet (counts_line n)) → FailsToJudge g h r (logs o save s) (logs o' save s')
      uncounted keeps looks m witnesses n save o o' s s' written cut = inr (inr (record {
        text = written.0;
        counts = n;
        is = (p, q, old, new, assumption_of a, assumed, found_of (assumption_of a) keeps r.reachable p q m witnesses written.0 (Some n) written.1);
        put = written.2;
        counted = cut;
      }))

      pub uncounted_in : (keeps : Bool) (looks : ℕ) (written : Written) (save o o' s s' : WriteLog) (result : Result Kept ℕ)
          → WritesKept (record { looks = looks; reachable = r.reachable; keeps = keeps; assumed = a }) p q written.kept.matching o o' written.kept.witnesses.items written.counts
          → IfErr result (λ status. PutsPrefix s s' (unless_quiet r.quiet (counts_line written.counts)))
          → IfErr result (λ status. FailsToJudge g h r (logs o save s) (logs o' save s'))
      uncounted_in keeps looks written save o o' s s' (Ok kept) wrote told = told
      uncounted_in keeps looks written save o o' s s' (Err status) wrote told =
          uncounted keeps looks written.kept.matching written.kept.witnesses.items written.counts save o o' s s' wrote told
