-- How the judging ends that keeps the witnesses.
use Rattle.std.specs.Prelude.{◌≡◌, ℕ, Bool, List, Option, None, Some}
use Rattle.diagram_reader.specs.Titled.{HasProgram}
use Rattle.io_text.specs.Log.{WriteLog}
use Rattle.diff_meaning.specs.Counting.{Count, CountAssuming}
use Rattle.diff_meaning.specs.Witnesses.{AreWitnesses}
use Rattle.cli_arguments.specs.declared.request.VerdictRequest.{VerdictRequest}
use Rattle.cli_inputs.specs.Setting.{Given}
use Rattle.cli_questions.specs.Ending.{Ends, Listing}
use Rattle.cli_diff.specs.Assumed.{Assumption}
use Rattle.cli_verdicts.specs.Together.{IsAssumedWhere}
use Rattle.cli_verdicts.specs.Ending.{Finds, FindsAssuming, assumes_of}
use Rattle.cli_witnesses.specs.Witnessed.{Witnessed}

-- The text is what is found of the two programs, where this is assumed, if something is. The witnesses are those of the verdicts that it tells, by the
-- same matching.
abbrev pub FindsWitnessed : Option Assumption → Bool → Witnessed → Listing
FindsWitnessed None reachable j text c =
    (f : Finds reachable j.old j.new text c) × (f.matching ≡ j.matching) × AreWitnesses (Count f.states) j.matching j.old j.new f.verdicts j.witnesses
FindsWitnessed (Some a) reachable j text c = (f : FindsAssuming a reachable j.old j.new text c) × (f.matching ≡ j.matching)
    × AreWitnesses (CountAssuming f.states) j.matching j.old j.new f.verdicts j.witnesses

-- The texts describe the two programs, and this is found of them where what the request assumes is true.
abbrev pub JudgesKeeping : Given → Given → VerdictRequest → Witnessed → Listing
JudgesKeeping g h r j text c = HasProgram g.aliases g.program j.old × HasProgram h.aliases h.program j.new
    × (a : Option Assumption) × IsAssumedWhere g h (assumes_of r) j.old j.new a × FindsWitnessed a r.reachable j text c

-- What was found was written, and then the line of counts, and the witnesses are kept.
abbrev pub KeepsWitnesses : Given → Given → VerdictRequest → Witnessed → WriteLog → WriteLog → (List ℕ → Type 0) → Type 0
KeepsWitnesses g h r j = Ends (JudgesKeeping g h r j) r.quiet
