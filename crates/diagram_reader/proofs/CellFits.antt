-- The numbers that a drawn cell has are those of declarations, and no coil writes an input.
use Rattle.std.proofs.Common.{◌≡◌, ℕ, ◌<◌, true, false, length, slice_get, Option, Some, None, refl, ap}
use Rattle.std.specs.Prelude.{option_map}
use Rattle.diagram_declarations.specs.Decls.{Declared, is_input, is_input_at}
use Rattle.diagram_declarations.specs.declared.decls.Var.{Var}
use Rattle.diagram_declarations.specs.declared.kind.BlockKind.{BlockKind}
use Rattle.diagram_declarations.specs.declared.decls.Symbol.{Symbol}
use Rattle.diagram_declarations.specs.declared.decls.Symbol.TheVariants as symbol
use Rattle.diagram_declarations.specs.declared.kind.Output.{Output}
use Rattle.diagram_program.specs.declared.mode.Mode.{Mode}
use Rattle.diagram_program.specs.declared.mode.CoilMode.{CoilMode}
use Rattle.diagram_page.specs.declared.form.Form.{Form}
use Rattle.diagram_page.specs.declared.form.Form.TheVariants.{Contact, Coil, Block, Lower, Jump}
use Rattle.diagram_page.specs.declared.operand.Reference.{Reference}
use Rattle.diagram_page.specs.Operand.{MayHave}
use Rattle.diagram_reader.specs.Rules.{wants_name}
use Rattle.diagram_page.proofs.FitLaws.{SymbolFits}
use Rattle.diagram_program.specs.Program.{Fits, has_memory}
use Rattle.diagram_reader.specs.Reading.{is_edge, cell_with}
use Rattle.diagram_reader.proofs.LowerLaws.{FitsName}

contact_fits : (n : ℕ) (decls : Declared) (m : Mode) (s : Symbol) (above target : Option ℕ) → SymbolFits decls s → Fits decls (cell_with n (Some (Contact m)) (Some s) above target)
contact_fits n decls m (symbol.Var i) above target fits = fits
contact_fits n decls m (symbol.Instance i) above target fits = fits

input_is : (o : Option Var) → is_input_at o ≡ true → option_map is_input o ≡ Some true
input_is None h = absurd cc
input_is (Some v) h = ap Some h

no_input : (o : Option Var) → ¬ (¬ (¬ (option_map is_input o ≡ Some true))) → is_input_at o ≡ false
no_input o h =
    elim (is_input_at o) as (λ b. is_input_at o ≡ b → b ≡ false) [
      | true ↦ λ e. absurd (h (λ none. none (input_is o e)))
      | false ↦ λ e. refl
    ] refl

coil_fits : (n : ℕ) (decls : Declared) (m : CoilMode) (s : Symbol) (above target : Option ℕ) (o : Option Output) → SymbolFits decls s → ¬ (¬ (MayHave decls (Some (Coil m)) s o))
    → Fits decls (cell_with n (Some (Coil m)) (Some s) above target)
coil_fits n decls m (symbol.Var i) above target None fits twice = (fits, no_input (slice_get decls.vars i) twice)
coil_fits n decls m (symbol.Var i) above target (Some o) fits twice = absurd (twice (λ none. none))
coil_fits n decls m (symbol.Instance i) above target o fits twice = tt

block_fits : (n : ℕ) (decls : Declared) (kind : BlockKind) (s : Symbol) (above target : Option ℕ) → SymbolFits decls s → Fits decls (cell_with n (Some (Block kind)) (Some s) above target)
block_fits n decls kind (symbol.Var i) above target fits = tt
block_fits n decls kind (symbol.Instance i) above target fits = fits

pub cell_fits : (n : ℕ) (decls : Declared) (form : Option Form) (name : Option Reference) (above target : Option ℕ) → ((x : Reference) → name ≡ Some x → SymbolFits decls x.symbol)
    → ((n : ℕ) → above ≡ Some n → n < length decls.instances) → FitsName decls form name → Fits decls (cell_with n form (option_map (λ (x : Reference). x.symbol) name) above target)
cell_fits n decls (Some (Contact m)) (Some x) above target names over suits = contact_fits n decls m x.symbol above target (names x refl)
cell_fits n decls (Some (Coil m)) (Some x) above target names over suits = coil_fits n decls m x.symbol above target x.output (names x refl) (suits x refl refl)
cell_fits n decls (Some (Block kind)) (Some x) above target names over suits = block_fits n decls kind x.symbol above target (names x refl)
cell_fits n decls (Some (Lower pin linked)) name (Some inst) target names over suits = over inst refl
cell_fits n decls (Some (Jump label)) name above None names over suits = tt
cell_fits n decls _ _ _ _ names over suits = tt

-- ---- an edge that has a name has a memory

contact_has : (n : ℕ) (m : Mode) (s : Symbol) (above target : Option ℕ) → is_edge (Some (Contact m)) ≡ true → has_memory (cell_with n (Some (Contact m)) (Some s) above target) ≡ true
contact_has n m (symbol.Var i) above target edge = rw edge refl
contact_has n m (symbol.Instance i) above target edge = rw edge refl

coil_has : (decls : Declared) (n : ℕ) (m : CoilMode) (s : Symbol) (o : Option Output) (above target : Option ℕ) → is_edge (Some (Coil m)) ≡ true
    → ¬ (¬ (MayHave decls (Some (Coil m)) s o)) → has_memory (cell_with n (Some (Coil m)) (Some s) above target) ≡ true
coil_has decls n m (symbol.Var i) o above target edge twice = rw edge refl
coil_has decls n m (symbol.Instance i) o above target edge twice = absurd (twice (λ none. none))

pub edge_has : (decls : Declared) (n : ℕ) (form : Option Form) (name : Option Reference) (above target : Option ℕ) → is_edge form ≡ true
    → (wants_name form ≡ true → name ≡ None → ⊥) → FitsName decls form name → has_memory (cell_with n form (option_map (λ (x : Reference). x.symbol) name) above target) ≡ true
edge_has decls n (Some (Contact m)) None above target edge named fits = absurd (named refl refl)
edge_has decls n (Some (Contact m)) (Some x) above target edge named fits = contact_has n m x.symbol above target edge
edge_has decls n (Some (Coil m)) None above target edge named fits = absurd (named refl refl)
edge_has decls n (Some (Coil m)) (Some x) above target edge named fits = coil_has decls n m x.symbol x.output above target edge (fits x refl refl)
edge_has decls n _ name above target edge named fits = absurd cc
