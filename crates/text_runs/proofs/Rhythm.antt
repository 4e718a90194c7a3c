-- The law of the brief text, by the law of the text.
use Rattle.std.proofs.Common.{◌∙◌, ◌∷◌, [], suc, zero, Bool, true, false, List, ap, arith, cond, sym}
use Rattle.std.specs.List.{All}
use Rattle.std.proofs.lemmas.List.Elements.{All-cons, All-head, All-tail}
use Rattle.diagram_program.specs.Program.{Drawing}
use Rattle.scan_cycle.specs.Runs.{OneScan}
use Rattle.text_runs.specs.Laws.{IsBriefRun, IsScanOf, IsStimulusOfRun}
use Rattle.text_runs.specs.RunText.{brief_after, brief_scans, gives_same}
use Rattle.text_trace.specs.Filled.{all_fields, filled}
use Rattle.text_runs.proofs.Filling.{brief_filled}

of_both : (P : OneScan → Type 0) (b : Bool) (x : OneScan) (xs : List OneScan) → P x → All P xs → All P (cond b xs (x ∷ xs))
of_both P true x xs h all = all
of_both P false x xs h all = All-cons P x xs h all

all_after : (P : OneScan → Type 0) (before : OneScan) (scans : List OneScan) → All P scans → All P (brief_after before scans)
all_after P before [] h = h
all_after P before (last ∷ []) h = h
all_after P before (scan ∷ next ∷ more) h =
    of_both P (gives_same before scan) scan (brief_after scan (next ∷ more)) (All-head P scan (next ∷ more) h)
    (all_after P scan (next ∷ more) (All-tail P scan (next ∷ more) h))

all_brief : (P : OneScan → Type 0) (scans : List OneScan) → All P scans → All P (brief_scans scans)
all_brief P [] h = h
all_brief P (first ∷ more) h =
    All-cons P first (brief_after first more) (All-head P first more h) (all_after P first more (All-tail P first more h))

pub is_brief_run : (p : Drawing) → IsStimulusOfRun p → IsBriefRun p
is_brief_run p told zero from scans some every all = absurd (omega (arith, some))
is_brief_run p told (suc e) from scans some every all =
    let brief = told (brief_scans scans) (all_brief (IsScanOf p) scans all) in
    record {
      told = brief;
      filled =
          ap (λ rows. all_fields (filled (suc e) rows)) brief.records
          ∙ brief_filled p e from scans every all
          ∙ sym (told scans all).records;
    }
