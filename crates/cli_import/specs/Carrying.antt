-- How `ladder import` ends: the program text of the project is written, or what is said of why there is none.
use Rattle.std.specs.Prelude.{◌≡◌, ◌⊎◌, ◌≤◌, All, ℕ, Bool, true, false, List, Option, length}
use Rattle.clp_project.specs.Project.{IsProject, IsRight}
use Rattle.clp_project.specs.declared.fault.ClpFault.{ClpFault}
use Rattle.clp_project.specs.declared.project.Project.{Project}
use Rattle.clp_project.specs.declared.reading.ReadingOptions.{ReadingOptions}
use Rattle.clp_import.specs.Import.{HasText, IsFaultOfAny}
use Rattle.clp_import.specs.Refusals.{IsThere}
use Rattle.clp_import.specs.declared.importing.ImportFault.{ImportFault}
use Rattle.clp_import.specs.declared.refusal.Refusal.{Refusal}
use Rattle.cli_inputs.specs.Reports.{IsReported, unread}
use Rattle.cli_inputs.specs.declared.fault.ToolFault.TheVariants as fault
use Rattle.io_text.specs.Log.{PutsAll, PutsPrefix, WriteLog}
use Rattle.cli_plc.specs.Kind.{is_xml}
use Rattle.cli_plc.specs.Units.{BreaksUnit, CarriesUnit}
use Rattle.cli_import.specs.Lines.{import_text, project_text, refusals_text}

-- The text is that of a project, as it is read, and a program text of it is written, whole or as far as `Written` says.
pub record CarriesProject (reading : ReadingOptions) (text : List ℕ) (Written : List ℕ → Type 0) : Type 0 where
  pub project : Project
  pub is : IsProject reading text project
  pub drawn : List ℕ
  pub has : HasText reading project drawn
  pub written : Written drawn

-- What is said where there is no program text: why the text is no project.
abbrev pub IsNoProject : ReadingOptions → Bool → List ℕ → List ℕ → Type 0
IsNoProject reading why text said = (f : ClpFault) × IsRight reading text f × (said ≡ project_text why f)

-- Or which elements of the project can't be carried over: at least one, and each of them is there, with its reason.
abbrev pub IsRefused : ReadingOptions → Bool → List ℕ → List ℕ → Type 0
IsRefused reading why text said =
    (p : Project) × (refusals : List Refusal) × IsProject reading text p × (1 ≤ length refusals) × All (IsThere reading p) refusals
    × (said ≡ refusals_text why refusals)

-- Or why it has none though no element is refused.
abbrev pub HasNone : ReadingOptions → Bool → List ℕ → List ℕ → Type 0
HasNone reading why text said = (p : Project) × (f : ImportFault) × IsProject reading text p × IsFaultOfAny reading p f × (said ≡ import_text why f)

-- This is said, or a prefix of it before the writer failed.
pub record Says (reading : ReadingOptions) (why : Bool) (text : List ℕ) (old new : WriteLog) : Type 0 where
  pub said : List ℕ
  pub is : IsNoProject reading why text said ⊎ (IsRefused reading why text said ⊎ HasNone reading why text said)
  pub written : PutsAll old new said ⊎ PutsPrefix old new said

-- Status 1: there is no program text, and nothing is on `out`; or `out` failed.
abbrev pub BreaksProject : ReadingOptions → Bool → List ℕ → WriteLog → WriteLog → WriteLog → WriteLog → Type 0
BreaksProject reading why text out out' err err' =
    ((out' ≡ out) × Says reading why text err err') ⊎ (CarriesProject reading text (PutsPrefix out out') × IsReported (unread why) err err' fault.Write)

-- ---- both kinds of projects, which are told apart by their first bytes

-- A text that begins as XML does is one of PLCopen XML, of which a program may be named, and any other one of ClassicLadder. What isn't known of either
-- may be open.
abbrev pub Carries : ReadingOptions → (name : Option (List ℕ)) → (text : List ℕ) → (List ℕ → Type 0) → Type 0
Carries reading name text Written =
    ((is_xml text ≡ false) × CarriesProject reading text Written) ⊎ ((is_xml text ≡ true) × CarriesUnit name reading.opened text Written)

abbrev pub BreaksCarrying : ReadingOptions → Bool → (name : Option (List ℕ)) → (text : List ℕ) → WriteLog → WriteLog → WriteLog → WriteLog → Type 0
BreaksCarrying reading why name text out out' err err' =
    ((is_xml text ≡ false) × BreaksProject reading why text out out' err err') ⊎ ((is_xml text ≡ true) × BreaksUnit why name reading.opened text out out' err err')
