-- Two programs that were judged, with the witnesses of the verdicts.
use Rattle.std.proofs.Common.{Bool, List, None, Option, Some, ℕ, subst, true, refl}
use Rattle.std.specs.Prelude.{All}
use Rattle.scan_cycle.specs.Rung.{Held}
use Rattle.scan_cycle.specs.Standing.{Fits}
use Rattle.diagram_program.specs.Program.{Drawing}
use Rattle.diff_meaning.specs.Verdicts.{Shows}
use Rattle.diff_meaning.specs.declared.witness.Witness.{Witness}
use Rattle.diagram_reader.specs.Titled.{HasProgram}
use Rattle.diff_matching.specs.Matching.{Matching}
use Rattle.diff_meaning.specs.Counting.{Count, CountAssuming}
use Rattle.diff_meaning.specs.Witnesses.{AreWitnesses}
use Rattle.io_text.specs.Log.{WriteLog}
use Rattle.cli_arguments.specs.declared.request.VerdictRequest.{VerdictRequest}
use Rattle.cli_inputs.specs.Setting.{Given}
use Rattle.cli_questions.specs.Ending.{Ends}
use Rattle.cli_questions.specs.declared.counting.ListCounts.{ListCounts}
use Rattle.cli_diff.specs.Assumed.{Assumption}
use Rattle.cli_verdicts.specs.Ending.{FindsAsked, FindsKept}
use Rattle.cli_witnesses.specs.Ending.{FindsWitnessed, KeepsWitnesses}
use Rattle.cli_witnesses.specs.Witnessed.{Witnessed}

witnessed_of : (j : Witnessed) (a : Option Assumption) (reachable : Bool) (text : List ℕ) (n : Option ListCounts)
    → FindsKept a true reachable j.old j.new j.matching j.witnesses text n → FindsWitnessed a reachable j text n
witnessed_of j None reachable text n is = (
  is.0,
  is.1,
  subst (λ (m : Matching). AreWitnesses (Count is.0.states) m j.old j.new is.0.verdicts j.witnesses) is.1 (is.2 refl),
)
witnessed_of j (Some a) reachable text n is = (
  is.0,
  is.1,
  subst (λ (m : Matching). AreWitnesses (CountAssuming is.0.states) m j.old j.new is.0.verdicts j.witnesses) is.1 (is.2 refl),
)

pub keeps_witnesses : (g h : Given) (r : VerdictRequest) (j : Witnessed) (o o' : WriteLog) (Put : List ℕ → Type 0)
    → HasProgram g.aliases g.program j.old → HasProgram h.aliases h.program j.new
    → Ends (FindsAsked g h r true j.old j.new j.matching j.witnesses) r.quiet o o' Put → KeepsWitnesses g h r j o o' Put
keeps_witnesses g h r j o o' Put old new ends = record {
  text = ends.text;
  counts = ends.counts;
  is = (old, new, ends.is.0, ends.is.1, witnessed_of j ends.is.0 r.reachable ends.text (Some ends.counts) ends.is.2);
  put = ends.put;
  counted = ends.counted;
}

-- States that show a difference are each of its program.
shown_fit : (Counts : Held → Held → Type 0) (m : Matching) (p q : Drawing) (w : Witness) → Shows Counts m p q w.target w.old_state w.new_state w.of_old w.of_new
    → Fits p w.old_state × Fits q w.new_state
shown_fit Counts m p q w shows = (shows.witness.shared.old_fits, shows.witness.shared.new_fits)

kept_fit : (a : Option Assumption) (reachable : Bool) (p q : Drawing) (m : Matching) (witnesses : List Witness) (text : List ℕ) (n : Option ListCounts)
    → FindsKept a true reachable p q m witnesses text n → All (λ w. Fits p w.old_state × Fits q w.new_state) witnesses
kept_fit None reachable p q m witnesses text n is = λ k w there.
    shown_fit (Count is.0.states) is.0.matching p q _ ((is.2 refl).show k w there)
kept_fit (Some a) reachable p q m witnesses text n is = λ k w there.
    shown_fit (CountAssuming is.0.states) is.0.matching p q _ ((is.2 refl).show k w there)

pub witnesses_fit : (g h : Given) (r : VerdictRequest) (p q : Drawing) (m : Matching) (witnesses : List Witness) (o o' : WriteLog) (Put : List ℕ → Type 0)
    → Ends (FindsAsked g h r true p q m witnesses) r.quiet o o' Put → All (λ w. Fits p w.old_state × Fits q w.new_state) witnesses
witnesses_fit g h r p q m witnesses o o' Put ends = kept_fit ends.is.0 r.reachable p q m witnesses ends.text (Some ends.counts) ends.is.2
