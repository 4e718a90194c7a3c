-- What a fault says is right, and a text that has one is no program.
use Rattle.std.proofs.Common.{◌≡◌, ◌≢◌, ℕ, ◌≤◌, ◌⊎◌, inl, inr, List, length, drop, refl, ap, subst, ◌∙◌}
use Rattle.diagram_declarations.specs.Decls.{Declared}
use Rattle.diagram_declarations.specs.Grammar.{HasDecls, HasNoDecls}
use Rattle.diagram_declarations.specs.Rules.{BreaksOn}
use Rattle.diagram_declarations.specs.declared.fault.VarRule.{VarRule}
use Rattle.diagram_declarations.specs.declared.fault.VarRule.TheVariants as var_rule
use Rattle.diagram_reader.specs.declared.grid_rule.Rule.{Rule}
use Rattle.diagram_reader.specs.declared.grid_rule.Rule.TheVariants.{BadByte, Unfinished}
use Rattle.diagram_reader.specs.declared.grid_rule.Rule.TheVariants as rule
use Rattle.diagram_reader.specs.declared.grid_rule.Stop.{Stop}
use Rattle.diagram_reader.specs.declared.grid_rule.Stop.TheVariants.{NoMemory, Broken}
use Rattle.diagram_reader.specs.declared.fault.GridFault.{GridFault}
use Rattle.diagram_program.specs.Program.{Drawing}
use Rattle.diagram_reader.specs.PageRules.{PageBreaks}
use Rattle.diagram_page.specs.Page.{ReadsAs}
use Rattle.diagram_reader.specs.Stops.{IsSoundPage, IsBrokenIn}
use Rattle.diagram_page.specs.ReadLines.{page_of}
use Rattle.diagram_reader.specs.declared.fault.GridFault.TheVariants.{Vars}
use Rattle.diagram_reader.specs.Reading.{IsProgram, IsFaultOfDrawing, IsMemory, IsRight, fault_with}
use Rattle.diagram_page.proofs.PageLaws.{page_reads, one_page}

-- a fault of the declarations
pub declared_right : {Q : Type 0} (text : List ℕ) (r : VarRule) (line : ℕ) → (r ≢ var_rule.Memory → HasNoDecls text) → BreaksOn r text line
    → ((r ≡ var_rule.Memory) × (line ≡ 0)) ⊎ ((HasNoDecls text × BreaksOn r text line) ⊎ Q)
declared_right text var_rule.Memory line none breaks = inl (refl, breaks)
declared_right text _ line none breaks = inr (inl (none (λ e. cc), breaks))

module _ (text : List ℕ) (declared : Declared) (place : ℕ) (within : place ≤ length text) (read : HasDecls text declared (drop place text)) where
  has_fault : (r : Rule) (rung line : ℕ) → PageBreaks r (page_of declared (drop place text)) rung line
      → IsFaultOfDrawing text (fault_with text place r rung line)
  has_fault r rung line breaks = record {
    page = page_of declared (drop place text);
    place = place;
    broken = r;
    rung = rung;
    line = line;
    within = within;
    read = read;
    reads = page_reads declared (drop place text);
    breaks = breaks;
    reported = refl;
  }

  -- how a stop is reported
  abbrev Reports : Stop → GridFault → Type 0
  Reports stop fault = (stop ≡ NoMemory → fault ≡ Vars (record { rule = var_rule.Memory; line = 0 }))
      × ((r : Rule) (rung line : ℕ) → stop ≡ Broken r rung line → fault ≡ fault_with text place r rung line)

  pub right : (stop : Stop) (fault : GridFault) → IsBrokenIn (page_of declared (drop place text)) stop → Reports stop fault → IsRight text fault
  right NoMemory fault broken is = rw (is.0 refl) (inl (refl, refl))
  right (Broken BadByte rung line) fault broken is = rw (is.1 _ _ _ refl) (inr (inr (has_fault BadByte rung line broken)))
  right (Broken Unfinished rung line) fault broken is = rw (is.1 _ _ _ refl) (inr (inr (has_fault Unfinished rung line broken)))
  right (Broken (rule.Grid r) rung line) fault broken is = rw (is.1 _ _ _ refl) (has_fault (rule.Grid r) rung line broken)

  pub no_program : ((other : Declared) (rest : List ℕ) → HasDecls text other rest → (other ≡ declared) × (rest ≡ drop place text))
      → (stop : Stop) (fault : GridFault) → IsBrokenIn (page_of declared (drop place text)) stop → Reports stop fault
      → ¬ (IsMemory fault) → (d : Drawing) → IsProgram text d → ⊥
  no_program only NoMemory fault broken is other d program = other (rw (is.0 refl) refl)
  no_program only (Broken r rung line) fault broken is other d program =
      let same = only program.page.decls program.rest program.read in
      let reads : ReadsAs (drop place text) program.page = subst (λ x. ReadsAs x program.page) same.1 program.reads in
      let one : program.page ≡ page_of declared (drop place text)
      = one_page (drop place text) program.page reads ∙ ap (λ x. page_of x (drop place text)) same.0 in
      let sound : IsSoundPage (page_of declared (drop place text)) = subst IsSoundPage one program.drawn.sound in
      sound r rung line broken
