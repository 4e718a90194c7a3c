-- How `ladder import` ends for a text in XML: the program text of one of its programs is written, or what is said of why there is none.
use Rattle.std.specs.Prelude.{◌≡◌, ◌⊎◌, ℕ, Bool, List, Option}
use Rattle.xml_document.specs.declared.document.Document.{Document}
use Rattle.xml_document.specs.declared.fault.XmlFault.{XmlFault}
use Rattle.xml_document.specs.Documents.{IsDocument}
use Rattle.xml_document.specs.Items.{Item, items_of}
use Rattle.xml_document.specs.Refusals.{Refuses}
use Rattle.plc_import.specs.Imported.{IsImported}
use Rattle.plc_import.specs.declared.fault.PlcImportFault.{PlcImportFault}
use Rattle.cli_inputs.specs.Reports.{IsReported, unread}
use Rattle.cli_inputs.specs.declared.fault.ToolFault.TheVariants as fault
use Rattle.io_text.specs.Log.{PutsAll, PutsPrefix, WriteLog}
use Rattle.cli_plc.specs.Lines.{unit_text}
use Rattle.cli_plc.specs.Xml.{xml_text}

-- The text is a document of a project with the program that is asked for, by its name or as the only one, and a program text of it is written, whole or
-- as far as `Written` says. Outputs of blocks that aren't known may be open.
pub record CarriesUnit (name : Option (List ℕ)) (is_open : Bool) (text : List ℕ) (Written : List ℕ → Type 0) : Type 0 where
  pub document : List Item
  pub is : IsDocument text document
  pub drawn : List ℕ
  pub imported : IsImported document name is_open drawn
  pub written : Written drawn

-- What is said where there is no program text: why the text is no document.
abbrev pub IsNoDocument : Bool → List ℕ → List ℕ → Type 0
IsNoDocument why text said = (f : XmlFault) × Refuses text f × (said ≡ xml_text why text f)

-- Or, of a document, some fault.
abbrev pub IsNoUnit : Bool → List ℕ → List ℕ → Type 0
IsNoUnit why text said = (d : Document) × (f : PlcImportFault) × IsDocument text (items_of d) × (said ≡ unit_text why d f)

-- This is said, or a prefix of it before the writer failed.
pub record SaysOfUnit (why : Bool) (text : List ℕ) (old new : WriteLog) : Type 0 where
  pub said : List ℕ
  pub is : IsNoDocument why text said ⊎ IsNoUnit why text said
  pub written : PutsAll old new said ⊎ PutsPrefix old new said

-- Status 1: there is no program text, and nothing is on `out`; or `out` failed.
abbrev pub BreaksUnit : Bool → (name : Option (List ℕ)) → (is_open : Bool) → (text : List ℕ) → WriteLog → WriteLog → WriteLog → WriteLog → Type 0
BreaksUnit why name is_open text out out' err err' =
    ((out' ≡ out) × SaysOfUnit why text err err') ⊎ (CarriesUnit name is_open text (PutsPrefix out out') × IsReported (unread why) err err' fault.Write)
