-- What a drawn cell says of its form, and of what is over it, above it and named by it.
use Rattle.std.proofs.Common.{◌≡◌, ◌⊎◌, inl, inr, ℕ, true, false, cond, Option, Some, None, refl, sym, ap, ◌∙◌}
use Rattle.std.proofs.lemmas.Option.{none-some, same_Some}
use Rattle.diagram_declarations.specs.declared.decls.Symbol.{Symbol}
use Rattle.diagram_declarations.specs.declared.decls.Symbol.TheVariants.{Var, Instance}
use Rattle.diagram_page.specs.declared.form.Form.{Form}
use Rattle.diagram_page.specs.declared.form.Form.TheVariants.{Contact, Coil, Block, Lower, Jump, Return}
use Rattle.diagram_page.specs.Form.{leaps}
use Rattle.diagram_page.specs.Operand.{instance_on}
use Rattle.diagram_program.specs.declared.cell.Cell.{Cell}
use Rattle.diagram_program.specs.declared.cell.Cell.TheVariants as cell
use Rattle.diagram_program.specs.Program.{memory_in, block_in, goes_to}
use Rattle.diagram_reader.specs.Reading.{is_edge, memory_for, cell_with}

-- the instance of a lower cell
abbrev pub lower_in : Cell → Option ℕ
lower_in c = elim c [ cell.Lower inst linked ↦ Some inst | _ ↦ None ]

-- A block is the instance over it; a cell that leads out of its rung is a return, or leads to the target; a lower cell is that of
-- the instance above; the memory of an edge has the number that is given for it.
pub record Tells (number rungs : ℕ) (form : Option Form) (name : Option Symbol) (above target : Option ℕ) (c : Cell) : Type 0 where
  pub block : block_in c ≡ instance_on form name
  pub goal : (t : ℕ) → goes_to rungs c ≡ Some t → (leaps form ≡ true) × ((t ≡ rungs) ⊎ (target ≡ Some t))
  pub lower : (inst : ℕ) → lower_in c ≡ Some inst → above ≡ Some inst
  pub memory : (m : ℕ) → memory_in c ≡ Some m → (number ≡ m) × (is_edge form ≡ true)

edge_told : (n : ℕ) (form : Option Form) (m : ℕ) → memory_for n form ≡ Some m → (n ≡ m) × (is_edge form ≡ true)
edge_told n form m h =
    elim (is_edge form) as (λ b. cond b (Some n) None ≡ Some m → (n ≡ m) × (b ≡ true)) [ true ↦ λ same. (cc, refl) | false ↦ λ same. absurd (none-some _ same) ] h

-- a cell that is no lower cell and no way out
stays : {n rungs : ℕ} {form : Option Form} {name : Option Symbol} {above target : Option ℕ} (c : Cell) → block_in c ≡ instance_on form name → goes_to rungs c ≡ None
    → lower_in c ≡ None → ((m : ℕ) → memory_in c ≡ Some m → (n ≡ m) × (is_edge form ≡ true)) → Tells n rungs form name above target c
stays c block goal lower memory = record {
  block = block;
  goal = λ t h. absurd (none-some _ (sym goal ∙ h));
  lower = λ inst h. absurd (none-some _ (sym lower ∙ h));
  memory = memory;
}

pub told : (n rungs : ℕ) (form : Option Form) (name : Option Symbol) (above target : Option ℕ) → Tells n rungs form name above target (cell_with n form name above target)
told n rungs (Some (Contact m)) (Some (Var var)) above target = stays _ refl refl refl (edge_told n (Some (Contact m)))
told n rungs (Some (Contact m)) (Some (Instance inst)) above target = stays _ refl refl refl (edge_told n (Some (Contact m)))
told n rungs (Some (Coil m)) (Some (Var var)) above target = stays _ refl refl refl (edge_told n (Some (Coil m)))
told n rungs (Some (Block kind)) (Some (Var var)) above target = stays _ refl refl refl (λ _ h. absurd (none-some _ h))
told n rungs (Some (Lower pin linked)) name (Some inst) target =
    record { block = refl; goal = λ t h. absurd (none-some _ h); lower = λ i h. h; memory = λ m h. absurd (none-some _ h) }
told n rungs (Some (Jump label)) name above (Some to) =
    record { block = refl; goal = λ t h. (refl, inr h); lower = λ i h. absurd (none-some _ h); memory = λ m h. absurd (none-some _ h) }
told n rungs (Some Return) name above target =
    record { block = refl; goal = λ t h. (refl, inl (same_Some t rungs (sym h))); lower = λ i h. absurd (none-some _ h); memory = λ m h. absurd (none-some _ h) }
told n rungs _ _ _ _ = stays _ refl refl refl (λ _ h. absurd (none-some _ h))

-- a cell with a block's instance is the block
pub is_block : (c : Cell) (inst : ℕ) → block_in c ≡ Some inst → c ≡ cell.Block inst
is_block (cell.Block n) inst h = ap (λ m. cell.Block m) (same_Some n inst h)
is_block _ inst h = absurd (none-some _ h)
