-- A program stays whole and well formed where its declarations get other titles.
use Rattle.std.proofs.Common.{◌≡◌, ℕ, zero, suc, ◌<◌, List, [], ◌∷◌, map, slice_get, refl, sym, ap, subst, ◌∙◌}
use Rattle.std.proofs.lemmas.List.{length-map}
use Rattle.diagram_declarations.specs.declared.decls.Var.{Var}
use Rattle.diagram_declarations.specs.declared.decls.Instance.{Instance}
use Rattle.diagram_declarations.specs.Decls.{Declared, is_input_at}
use Rattle.diagram_declarations.specs.Titles.{plain, plain_var, plain_instance}
use Rattle.diagram_program.specs.declared.site.Site.{Site}
use Rattle.diagram_program.specs.declared.cell.Operand.{Operand}
use Rattle.diagram_program.specs.declared.cell.Operand.TheVariants as operand
use Rattle.diagram_program.specs.declared.cell.Cell.{Cell}
use Rattle.diagram_program.specs.declared.cell.Cell.TheVariants as cell
use Rattle.diagram_reader.specs.Reading.{IsProgram}
use Rattle.diagram_reader.specs.Titled.{without_aliases}
use Rattle.diagram_program.specs.Program.{drawing, cell_in, IsWhole, IsWellFormed, OperandFits, Fits, has_second}

input_alike : (vars : List Var) (n : ℕ) → is_input_at (slice_get (map plain_var vars) n) ≡ is_input_at (slice_get vars n)
input_alike [] n = refl
input_alike (v ∷ vars) zero = refl
input_alike (v ∷ vars) (suc n) = input_alike vars n

second_alike : (instances : List Instance) (n : ℕ) → has_second (slice_get (map plain_instance instances) n) ≡ has_second (slice_get instances n)
second_alike [] n = refl
second_alike (i ∷ instances) zero = refl
second_alike (i ∷ instances) (suc n) = second_alike instances n

operand_fits : (d : Declared) (x : Operand) → OperandFits (plain d) x → OperandFits d x
operand_fits d (operand.Var number) h = subst (λ n. number < n) (length-map d.vars plain_var) h
operand_fits d (operand.Output number) h = subst (λ n. number < n) (length-map d.instances plain_instance) h

cell_fits : (d : Declared) (c : Cell) → Fits (plain d) c → Fits d c
cell_fits d cell.Empty h = h
cell_fits d cell.Wire h = h
cell_fits d (cell.Contact mode x memory) h = operand_fits d x h
cell_fits d (cell.Coil mode var memory) (within, none) = (subst (λ n. var < n) (length-map d.vars plain_var) within, sym (input_alike d.vars var) ∙ none)
cell_fits d (cell.Block inst) h = subst (λ n. inst < n) (length-map d.instances plain_instance) h
cell_fits d (cell.Lower inst linked) h = subst (λ n. inst < n) (length-map d.instances plain_instance) h
cell_fits d (cell.Jump target) h = h
cell_fits d cell.Return h = h

pub whole_too : (d e : Declared) (rungs : ℕ) (sites : List Site) → IsWhole (drawing d rungs sites) → IsWhole (drawing e rungs sites)
whole_too d e rungs sites h = record { few = h.few; size = h.size }

pub well_formed_too : (d e : Declared) (rungs : ℕ) (sites : List Site) → plain e ≡ d → IsWellFormed (drawing d rungs sites) → IsWellFormed (drawing e rungs sites)
well_formed_too d e rungs sites same h = record {
  one_memory = h.one_memory;
  memories_below = h.memories_below;
  one_block = h.one_block;
  one_jump = h.one_jump;
  jumps_down = h.jumps_down;
  under_block = h.under_block;
  fits = λ i. cell_fits e (cell_in (drawing e rungs sites) i) (subst (λ x. Fits x (cell_in (drawing e rungs sites) i)) (sym same) (h.fits i));
  has_lower = λ i inst block second.
      h.has_lower i inst block (ap (λ x. has_second (slice_get x.instances inst)) (sym same) ∙ second_alike e.instances inst ∙ second);
}

-- a program of the text, with other titles, is that of the text without them
pub titled_program : (text : List ℕ) (d e : Declared) (rungs : ℕ) (sites : List Site) → plain e ≡ d → IsProgram text (drawing d rungs sites)
    → IsProgram text (without_aliases (drawing e rungs sites))
titled_program text d e rungs sites same h = subst (λ x. IsProgram text (drawing x rungs sites)) (sym same) h
