-- The text of a run is a stimulus that tells its scans.
use Rattle.std.proofs.Common.{◌∙◌, [], map, refl, sym, filter}
use Rattle.std.specs.List.{IsDistinct}
use Rattle.std.proofs.lemmas.List.FromFn.{length-range_with_len}
use Rattle.diagram_declarations.specs.Decls.{is_input, names_of}
use Rattle.diagram_declarations.specs.Name.{same_letters}
use Rattle.diagram_program.specs.Program.{Drawing}
use Rattle.scan_cycle.specs.Runs.{OneScan}
use Rattle.text_runs.specs.Laws.{AreNamed, IsScanOf, IsStimulusOfRun, TellsScan, all_inputs, input_count}
use Rattle.text_runs.specs.RunText.{run_header}
use Rattle.text_trace.specs.Stimulus.{IsHeader}
use Rattle.text_runs.proofs.Given.{all_given, distinct_range}
use Rattle.text_runs.proofs.Named.{all_named}
use Rattle.text_runs.proofs.Plain.{run_plain, run_records}

header_names : (p : Drawing) → IsDistinct same_letters (names_of p.decls) → AreNamed p.decls.vars → IsHeader p.decls (run_header p) (all_inputs p)
header_names p distinct named = record {
  words = map (λ v. v.name) (filter is_input p.decls.vars);
  same = refl;
  named = all_named p.decls [] p.decls.vars refl distinct named;
  distinct = distinct_range 0 (input_count p);
}

scan_told : (p : Drawing) (scan : OneScan) → IsScanOf p scan → TellsScan p scan
scan_told p scan h = record {
  row = record { same = refl; count = h.0 ∙ sym (length-range_with_len 0 (input_count p)); small = h.1 };
  given = λ image wide. all_given (input_count p) scan.inputs image h.0 wide;
}

pub is_stimulus : (p : Drawing) → IsDistinct same_letters (names_of p.decls) → AreNamed p.decls.vars → IsStimulusOfRun p
is_stimulus p distinct named scans h = record {
  plain = run_plain p scans named h;
  records = run_records p scans named h;
  header = header_names p distinct named;
  rows = λ k d within. scan_told p _ (h k d within);
}
