-- Programs whose declarations have their aliases for titles.
use Rattle.std.specs.Prelude.{ℕ, List, Bool, true, false}
use Rattle.diagram_declarations.specs.Titles.{plain, AreTitled, HasTakenAlias}
use Rattle.diagram_reader.specs.declared.titled.TitledFault.{TitledFault}
use Rattle.diagram_reader.specs.declared.titled.TitledFault.TheVariants.{Grid, Title}
use Rattle.diagram_program.specs.Program.{Drawing}
use Rattle.diagram_reader.specs.Reading.{IsProgram, IsMemory, IsRight}

-- the program without its aliases
abbrev pub without_aliases : Drawing → Drawing
without_aliases p = record p { decls = plain p.decls }

-- The program of the text, but for titles, which are those of the text.
abbrev pub IsTitledProgram : List ℕ → Drawing → Type 0
IsTitledProgram text p = IsProgram text (without_aliases p) × AreTitled text p.decls

-- The text is no program, for a reason that is right; or it is one, and an alias of it is taken.
abbrev pub IsRightTitled : List ℕ → TitledFault → Type 0
IsRightTitled text (Grid f) = (¬ (IsMemory f) → (p : Drawing) → IsProgram text p → ⊥) × IsRight text f
IsRightTitled text (Title f) = (p : Drawing) × IsProgram text p × HasTakenAlias text p.decls f.line

-- The program of the text, with its titles where they are asked for.
abbrev pub HasProgram : Bool → List ℕ → Drawing → Type 0
HasProgram titled text p = elim titled [ true ↦ IsTitledProgram text p | false ↦ IsProgram text p ]
