-- When two programs are equivalent: all that belongs together is left alike, they begin alike, and the outputs are the same ones at the same
-- addresses.
use Rattle.std.specs.Prelude.{◌≡◌, ℕ, Bool, true, false, List, option_map, slice_get, unwrap_or}
use Rattle.std.specs.List.{list_any}
use Rattle.diagram_declarations.specs.declared.decls.VarKind.{VarKind}
use Rattle.diagram_declarations.specs.declared.decls.VarKind.TheVariants.{Output}
use Rattle.diagram_program.specs.Program.{Drawing}
use Rattle.scan_cycle.specs.Standing.{fresh}
use Rattle.diff_matching.specs.Matching.{Agree, AgreeOnInputs, Matching}
use Rattle.diff_matching.specs.Runs.{AgreeAfterEach, AreRuns, TwoScans}
use Rattle.diff_cases.specs.Assuming.{BothAssumed}
use Rattle.diff_meaning.specs.Laws.{AreAsAssumed}
use Rattle.diff_meaning.specs.Verdicts.{AreAllSame}
use Rattle.diff_meaning.specs.declared.verdict.Verdicts.{Verdicts}
use Rattle.diff_findings.specs.Findings.{findings}
use Rattle.diff_findings.specs.declared.finding.Finding.{Finding}
use Rattle.diff_findings.specs.declared.finding.Remark.{Remark}
use Rattle.diff_findings.specs.declared.finding.Remark.TheVariants.{Alone, Moved}
use Rattle.diff_findings.specs.declared.finding.Sort.{Sort}
use Rattle.diff_findings.specs.declared.finding.Sort.TheVariants.{NewVariable, OldVariable}
use Rattle.diff_findings.specs.declared.finding.Subject.{Subject}

-- Initial values agree, those of inputs too.
abbrev pub BeginAlike : Matching → Drawing → Drawing → Type 0
BeginAlike m p q = Agree m (fresh p).held (fresh q).held × AgreeOnInputs m (fresh p).held (fresh q).held

-- Whatever inputs come, at whatever moments: after each scan of a run from the fresh states what belongs together is the same.
abbrev pub AgreeInAllRuns : Matching → Drawing → Drawing → Type 0
AgreeInAllRuns m p q = (scans : List TwoScans) → AreRuns m p q scans (fresh p) (fresh q) → AgreeAfterEach m p q scans (fresh p) (fresh q)

-- The same of the runs in each scan of which what is assumed of the inputs is true.
abbrev pub AgreeInRunsAssuming : BothAssumed → Matching → Drawing → Drawing → Type 0
AgreeInRunsAssuming a m p q = (scans : List TwoScans) → AreRuns m p q scans (fresh p) (fresh q) → AreAsAssumed a p q scans
    → AgreeAfterEach m p q scans (fresh p) (fresh q)

-- ---- terminals

abbrev pub is_output : VarKind → Bool
is_output Output = true
is_output other = false

-- an output of the program, by its number
abbrev pub is_output_of : Drawing → ℕ → Bool
is_output_of p var = unwrap_or (option_map (λ v. is_output v.kind) (slice_get p.decls.vars var)) false

abbrev pub is_alone_at : Drawing → Drawing → Sort → ℕ → Bool
is_alone_at p q NewVariable n = is_output_of q n
is_alone_at p q OldVariable n = is_output_of p n
is_alone_at p q other n = false

abbrev pub is_output_alone : Drawing → Drawing → Subject → Bool
is_output_alone p q s = is_alone_at p q s.sort s.number

abbrev pub tells_terminal : Drawing → Drawing → Subject → Remark → Bool
tells_terminal p q s (Moved old new) = true
tells_terminal p q s Alone = is_output_alone p q s
tells_terminal p q s other = false

-- It says that a variable has another address, or that an output belongs to one program alone.
abbrev pub is_about_terminals : Drawing → Drawing → Finding → Bool
is_about_terminals p q f = tells_terminal p q f.subject f.remark

-- What is said of equivalence, by verdicts that are true: where nothing is said of terminals, the outputs of the machine are the same.
abbrev pub IsSaidOfRuns : Matching → Drawing → Drawing → Verdicts → Bool → Type 0
IsSaidOfRuns m p q v true = AreAllSame v × BeginAlike m p q × (list_any (is_about_terminals p q) (findings p q m v) ≡ false) × AgreeInAllRuns m p q
IsSaidOfRuns m p q v false = AreAllSame v → BeginAlike m p q → list_any (is_about_terminals p q) (findings p q m v) ≡ false → ⊥

-- The same where something is assumed of the inputs.
abbrev pub IsSaidOfRunsAssuming : BothAssumed → Matching → Drawing → Drawing → Verdicts → Bool → Type 0
IsSaidOfRunsAssuming a m p q v true = AreAllSame v × BeginAlike m p q × (list_any (is_about_terminals p q) (findings p q m v) ≡ false)
    × AgreeInRunsAssuming a m p q
IsSaidOfRunsAssuming a m p q v false = AreAllSame v → BeginAlike m p q → list_any (is_about_terminals p q) (findings p q m v) ≡ false → ⊥
