-- What is found of a question, and what is written of it.
use Rattle.std.specs.Prelude.{◌≡◌, ◌++◌, ℕ, zero, suc, List, [], Option, Some, codes, decimal, length}
use Rattle.io_text.specs.Left.{Fields}
use Rattle.io_text.specs.Text.{records_of}
use Rattle.scan_cycle.specs.Runs.{OneScan}
use Rattle.reach_runs.specs.Asking.{NeverOn, RunQuestion, StaysOff, SwitchesOn}
use Rattle.diagram_program.specs.Program.{Drawing}
use Rattle.reach_search.specs.declared.seeking.Verdict.{Verdict}
use Rattle.reach_search.specs.declared.seeking.Verdict.TheVariants as verdict
use Rattle.reach_runs.specs.declared.timing.Timing.{Timing}
use Rattle.reach_runs.specs.declared.timing.Timing.TheVariants.{AnyMoments, Every}
use Rattle.text_runs.specs.Making.{MakesScans}
use Rattle.text_runs.specs.RunText.{brief_text, run_text}
use Rattle.text_trace.specs.Filled.{all_fields, filled}
use Rattle.text_trace.specs.Simulation.{with_scans}
use Rattle.text_trace.specs.Trace.{as_trace}
use Rattle.cli_reach.specs.declared.finding.Found.{Found}
use Rattle.cli_reach.specs.declared.finding.Found.TheVariants.{Run, Never, NotIn, Unsettled}

-- the text of a run: in a rhythm a row only where the inputs change
abbrev pub text_of : Timing → Drawing → List OneScan → List ℕ
text_of AnyMoments p run = run_text p run
text_of (Every zero) p run = run_text p run
text_of (Every (suc more)) p run = brief_text p run

-- the records that a simulation of the text goes through: in a rhythm those between its records too
abbrev pub rows_of : Timing → Drawing → List OneScan → List Fields
rows_of AnyMoments p run = records_of (run_text p run)
rows_of (Every zero) p run = records_of (run_text p run)
rows_of (Every (suc more)) p run = all_fields (filled (suc more) (records_of (brief_text p run)))

-- the time between two scans of a simulation of the text; 0 where it makes none between two records
abbrev pub time_of : Timing → ℕ
time_of AnyMoments = 0
time_of (Every every) = every

-- A simulation of the text, from the state that is asked from, makes the run.
abbrev pub IsReplayed : RunQuestion → List OneScan → Type 0
IsReplayed q run = MakesScans (with_scans (time_of q.timing) as_trace) q.program q.state run (rows_of q.timing q.program run)

-- What is found is so, and this is its text: that of a run which switches the target on, as a stimulus, or none.
abbrev pub IsFound : RunQuestion → Option ℕ → Found → List ℕ → Type 0
IsFound q most (Run scans) text =
    (run : List OneScan) × SwitchesOn q run × IsReplayed q run × (scans ≡ length run) × (text ≡ text_of q.timing q.program run)
IsFound q most Never text = NeverOn q × (text ≡ [])
IsFound q most (NotIn scans) text = (most ≡ Some scans) × StaysOff q scans × (text ≡ [])
IsFound q most (Unsettled scans) text = StaysOff q scans × (text ≡ [])

-- the text of what a search found
abbrev pub verdict_text : Timing → Drawing → Verdict → List ℕ
verdict_text timing p (verdict.Run run) = text_of timing p run.items
verdict_text timing p verdict.Never = []
verdict_text timing p verdict.Open = []

-- the words for what is found, before how many states were kept
abbrev pub found_words : Found → List ℕ
found_words (Run scans) = codes "run scans " ++ decimal scans
found_words Never = codes "none"
found_words (NotIn scans) = codes "none scans " ++ decimal scans
found_words (Unsettled scans) = codes "unsettled scans " ++ decimal scans

-- where something is assumed, of how many expressions it is
abbrev pub assumed_words : ℕ → List ℕ
assumed_words zero = []
assumed_words (suc more) = codes " assumed " ++ decimal (suc more)

abbrev pub states_words : (states assumed : ℕ) → List ℕ
states_words states assumed = codes " states " ++ (decimal states ++ (assumed_words assumed ++ codes "\n"))

-- `run scans N states M`, `none states M`, `none scans N states M`, `unsettled scans N states M`; where something is assumed, `assumed A` behind it
abbrev pub found_line : Found → (states assumed : ℕ) → List ℕ
found_line found states assumed = found_words found ++ states_words states assumed
