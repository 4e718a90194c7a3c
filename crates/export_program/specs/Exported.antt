-- A ladder program exported as Structured Text.
use Rattle.std.specs.Prelude.{◌≡◌, ℕ, Bool, true, false, ◌&&◌, not, if◌then◌else◌, List, [], ◌∷◌, ◌++◌, codes, length, map, Option, Some, None, is_some, position}
use Rattle.diagram_declarations.specs.declared.decls.Var.{Var}
use Rattle.diagram_declarations.specs.Decls.{Declared}
use Rattle.diagram_program.specs.Program.{Drawing}
use Rattle.st_program.specs.declared.program.StProgram.{StProgram}
use Rattle.st_program.specs.Programs.{IsStProgram}
use Rattle.scan_signals.specs.Blocks.{new_block}
use Rattle.scan_cycle.specs.Rung.{Held, held}
use Rattle.scan_cycle.specs.Standing.{fresh}
use Rattle.export_rungs.specs.Matched.{AreMatched}
use Rattle.export_check.specs.Meaning.{IsExportOf}
use Rattle.export_text.specs.Names.{is_declared, is_name}
use Rattle.export_program.specs.declared.fault.ExportFault.{ExportFault}
use Rattle.export_program.specs.declared.fault.ExportFault.TheVariants as fault
use Rattle.export_program.specs.declared.form.AddressForm.{AddressForm}
use Rattle.export_program.specs.declared.form.AddressForm.TheVariants.{Plain, Bits}
use Rattle.export_program.specs.Declarations.{AreExported}

-- The state in which the first run of the statements begins: variables have their values at the start, and blocks have stored nothing.
abbrev pub begun : StProgram → Held
begun p = held (map (λ x. x.initial) p.variables.items) [] (map (λ x. new_block x.kind) p.instances.items)

-- The bytes are this program in Structured Text, which declares what the drawing declares. The states in which both begin match, and each run of
-- the statements does what a scan of the drawing does.
pub record IsExportedBy (form : AddressForm) (d : Drawing) (text : List ℕ) (program : StProgram) : Type 0 where
  pub read : IsStProgram text program
  pub declared : AreExported form text d.decls program.variables.items program.instances.items
  pub begins : AreMatched d (length program.variables.items) (fresh d).held (begun program)
  pub does : IsExportOf d (length program.variables.items) program.statements

-- The bytes are such a program.
pub record IsExported (form : AddressForm) (d : Drawing) (text : List ℕ) : Type 0 where
  pub program : StProgram
  pub by : IsExportedBy form d text program

-- How addresses are written.
abbrev pub addresses : (bits : Bool) → AddressForm
addresses bits = if bits then Bits else Plain

-- ---- what can't be exported

-- A program can have the name: it is one of Structured Text, and nothing is declared by it.
abbrev pub can_be_called : Declared → (name : List ℕ) → Bool
can_be_called d name = is_name name && not (is_declared d name)

-- The address has two numbers, as %IX0.0 has.
abbrev pub has_two_numbers : Var → Bool
has_two_numbers v = elim v.address [ Some a ↦ is_some a.second | None ↦ false ]

-- the first variable with an address that can't be written in this form
abbrev pub unwritable : AddressForm → Declared → Option ℕ
unwritable Plain d = None
unwritable Bits d = position has_two_numbers d.vars

-- The first reason: the name of the program, then an address, and then the size of the text or that it isn't found to be the program.
abbrev pub IsRefused : AddressForm → (name : List ℕ) → Drawing → ExportFault → Type 0
IsRefused form name d fault.Memory = Unit {0}
IsRefused form name d fault.ProgramName = can_be_called d.decls name ≡ false
IsRefused form name d (fault.TwoNumbers variable) = (can_be_called d.decls name ≡ true) × (unwritable form d.decls ≡ Some variable)
IsRefused form name d other = (can_be_called d.decls name ≡ true) × (unwritable form d.decls ≡ None)

-- The text begins with PROGRAM, the name and the end of the line.
abbrev pub IsTitled : (name text : List ℕ) → Type 0
IsTitled name text = (rest : List ℕ) × (text ≡ codes "PROGRAM " ++ (name ++ 10 ∷ rest))

-- The text is that of a program that can have this name and these addresses.
pub record IsExportedAs (form : AddressForm) (name : List ℕ) (d : Drawing) (text : List ℕ) : Type 0 where
  pub exported : IsExported form d text
  pub callable : can_be_called d.decls name ≡ true
  pub writable : unwritable form d.decls ≡ None
  pub titled : IsTitled name text
