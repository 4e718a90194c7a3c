-- Why there is no text, by the step that found it.
use Rattle.std.proofs.Common.{◌≡◌, ◌⊎◌, IfErr, ℕ, List, Result, Ok, Err, inl, inr, subst, sym}
use Rattle.diagram_program.specs.Program.{Drawing}
use Rattle.diagram_reader.specs.Reading.{IsMemory, IsProgram}
use Rattle.diagram_reader.specs.declared.fault.GridFault.{GridFault}
use Rattle.clp_project.specs.declared.project.Project.{Project}
use Rattle.clp_project.specs.declared.reading.ReadingOptions.{ReadingOptions}
use Rattle.clp_meaning.specs.declared.meaning.BlockRef.{BlockRef}
use Rattle.clp_drawing.specs.declared.drafting.DraftFault.{DraftFault}
use Rattle.clp_drawing.specs.declared.drafting.Drafted.{Drafted}
use Rattle.clp_meaning.specs.Carried.{IsCarriedBy}
use Rattle.clp_import.specs.declared.importing.ImportFault.{ImportFault}
use Rattle.clp_import.specs.declared.importing.ImportFault.TheVariants as fault
use Rattle.clp_import.specs.Import.{IsFault, IsOfText}

pub of_text : (Answers : Result Drafted DraftFault → Type 0) (reading : ReadingOptions) (p : Project) (d : Drafted) (e : ImportFault)
    → Answers (Ok d) → IsOfText reading p d.blocks.items d.text.items e → IsFault Answers reading p e
of_text Answers reading p d fault.Memory drawn is = tt
of_text Answers reading p d fault.NotFaithful drawn is = (d, drawn, is)
of_text Answers reading p d _ drawn is = absurd is

-- No text is two programs, so one that is another than the project is no text of it.
compared : (reading : ReadingOptions) (p : Project) (blocks : List BlockRef) (text : List ℕ) (program : Drawing) (e : ImportFault)
    → ((d : Drawing) → IsProgram text d → d ≡ program) → (e ≡ fault.NotFaithful) × ¬ (IsCarriedBy reading p blocks program)
    → IsOfText reading p blocks text e
compared reading p blocks text program e only (is, other) =
    let wrong : IsOfText reading p blocks text fault.NotFaithful =
    λ h. other (subst (λ (d : Drawing). IsCarriedBy reading p blocks d) (only h.0 h.1) h.2) in
    subst (λ (f : ImportFault). IsOfText reading p blocks text f) (sym is) wrong

pub compared_as : {T : Type 0} (reading : ReadingOptions) (p : Project) (blocks : List BlockRef) (text : List ℕ) (program : Drawing) (r : Result T ImportFault)
    → ((d : Drawing) → IsProgram text d → d ≡ program) → IfErr r (λ e. (e ≡ fault.NotFaithful) × ¬ (IsCarriedBy reading p blocks program))
    → IfErr r (λ e. IsOfText reading p blocks text e)
compared_as reading p blocks text program (Ok x) only h = tt
compared_as reading p blocks text program (Err e) only h = compared reading p blocks text program e only h

pub unread : (reading : ReadingOptions) (p : Project) (blocks : List BlockRef) (text : List ℕ) (e : ImportFault) (f : GridFault)
    → (¬ (IsMemory f) → (d : Drawing) → IsProgram text d → ⊥) → (e ≡ fault.Memory) ⊎ ((e ≡ fault.NotFaithful) × ¬ (IsMemory f))
    → IsOfText reading p blocks text e
unread reading p blocks text e f none said =
    elim said [
      | inl is ↦ let memory : IsOfText reading p blocks text fault.Memory = tt in subst (λ (g : ImportFault). IsOfText reading p blocks text g) (sym is) memory
      | inr is ↦
          let wrong : IsOfText reading p blocks text fault.NotFaithful = λ h. none is.1 h.0 h.1 in
          subst (λ (g : ImportFault). IsOfText reading p blocks text g) (sym is.0) wrong
    ]
