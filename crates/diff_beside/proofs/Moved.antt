-- What a cell tells, and what it tells where its numbers are moved.
use Rattle.std.proofs.Common.{◌≡◌, ◌∙◌, ◌+◌, ◌<◌, ℕ, Bool, Option, Some, None, ap, length, refl, sym, subst}
use Rattle.std.specs.Prelude.{is_some, option_map}
use Rattle.std.proofs.lemmas.Option.{none-some, same_Some}
use Rattle.diagram_declarations.specs.Decls.{Declared}
use Rattle.diagram_program.specs.declared.cell.Cell.{Cell}
use Rattle.diagram_program.specs.declared.cell.Cell.TheVariants as cell
use Rattle.diagram_program.specs.declared.cell.Operand.TheVariants as operand
use Rattle.diagram_program.specs.Program.{Fits, block_in, goes_to, has_memory, memory_in}
use Rattle.diff_beside.specs.Fitting.{FitIn}
use Rattle.diff_beside.specs.Moving.{Shift, cell_of_return, moved}

-- the number that was moved
pub before_moved : (by : ℕ) (o : Option ℕ) (n : ℕ) → option_map (λ k. by + k) o ≡ Some n → (k : ℕ) × (o ≡ Some k) × (n ≡ by + k)
before_moved by (Some k) n h = (k, refl, sym (same_Some (by + k) n h))
before_moved by None n h = absurd (none-some _ h)

return_memory : (past : Option ℕ) → memory_in (cell_of_return past) ≡ None
return_memory (Some t) = refl
return_memory None = refl

return_block : (past : Option ℕ) → block_in (cell_of_return past) ≡ None
return_block (Some t) = refl
return_block None = refl

pub moved_memory : (s : Shift) (c : Cell) → memory_in (moved s c) ≡ option_map (λ k. s.memories + k) (memory_in c)
moved_memory s cell.Return = return_memory s.past
moved_memory s _ = refl

pub moved_block : (s : Shift) (c : Cell) → block_in (moved s c) ≡ option_map (λ k. s.instances + k) (block_in c)
moved_block s cell.Return = return_block s.past
moved_block s _ = refl

-- a return leads past the last rung of the program
abbrev pub ReturnsTo : ℕ → Shift → ℕ → Type 0
ReturnsTo rungs s there = goes_to there (cell_of_return s.past) ≡ Some (s.rungs + rungs)

pub moved_goal : (s : Shift) (rungs there : ℕ) → ReturnsTo rungs s there → (c : Cell)
    → goes_to there (moved s c) ≡ option_map (λ k. s.rungs + k) (goes_to rungs c)
moved_goal s rungs there back cell.Return = back
moved_goal s rungs there back _ = refl

some_moved : (by : ℕ) (o : Option ℕ) → is_some (option_map (λ k. by + k) o) ≡ is_some o
some_moved by (Some k) = refl
some_moved by None = refl

pub moved_has : (s : Shift) (c : Cell) → has_memory (moved s c) ≡ has_memory c
moved_has s c = ap is_some (moved_memory s c) ∙ some_moved s.memories (memory_in c)

-- ---- lower cells and blocks

abbrev pub lower_of : Cell → Option (ℕ × Bool)
lower_of c = elim c [ cell.Lower inst linked ↦ Some (inst, linked) | _ ↦ None ]

return_lower : (past : Option ℕ) → lower_of (cell_of_return past) ≡ None
return_lower (Some t) = refl
return_lower None = refl

pub before_lower : (s : Shift) (c : Cell) (inst : ℕ) (linked : Bool) → moved s c ≡ cell.Lower inst linked
    → (k : ℕ) × (c ≡ cell.Lower k linked) × (inst ≡ s.instances + k)
before_lower s (cell.Lower k l) inst linked h =
    let e = same_Some _ _ (ap lower_of h) in
    (k, ap (λ b. cell.Lower k b) (ap (λ x. x.1) e), sym (ap (λ x. x.0) e))
before_lower s cell.Return inst linked h = absurd (none-some _ (sym (return_lower s.past) ∙ ap lower_of h))
before_lower s cell.Empty inst linked h = absurd (none-some _ (ap lower_of h))
before_lower s cell.Wire inst linked h = absurd (none-some _ (ap lower_of h))
before_lower s (cell.Contact mode operand memory) inst linked h = absurd (none-some _ (ap lower_of h))
before_lower s (cell.Coil mode var memory) inst linked h = absurd (none-some _ (ap lower_of h))
before_lower s (cell.Block k) inst linked h = absurd (none-some _ (ap lower_of h))
before_lower s (cell.Jump target) inst linked h = absurd (none-some _ (ap lower_of h))

is_block : (c : Cell) (inst : ℕ) → block_in c ≡ Some inst → c ≡ cell.Block inst
is_block (cell.Block n) inst h = ap (λ m. cell.Block m) (same_Some n inst h)
is_block _ inst h = absurd (none-some _ h)

pub before_block : (s : Shift) (c : Cell) (inst : ℕ) → moved s c ≡ cell.Block inst → (k : ℕ) × (c ≡ cell.Block k) × (inst ≡ s.instances + k)
before_block s c inst h =
    let b = before_moved s.instances (block_in c) inst (sym (moved_block s c) ∙ ap block_in h) in
    (b.0, is_block c b.0 b.1, b.2)

-- ---- what is declared

return_fits : (d : Declared) (past : Option ℕ) → Fits d (cell_of_return past)
return_fits d (Some t) = tt
return_fits d None = tt

pub moved_fits : (s : Shift) (part there : Declared) → FitIn s part there → (c : Cell) → Fits part c → Fits there (moved s c)
moved_fits s part there fit (cell.Contact mode (operand.Var var) memory) h = (fit.vars var h).0
moved_fits s part there fit (cell.Contact mode (operand.Output inst) memory) h = (fit.instances inst h).0
moved_fits s part there fit (cell.Coil mode var memory) h = let v = fit.vars var h.0 in (v.0, v.1 ∙ h.1)
moved_fits s part there fit (cell.Block inst) h = (fit.instances inst h).0
moved_fits s part there fit (cell.Lower inst linked) h = (fit.instances inst h).0
moved_fits s part there fit cell.Return h = return_fits there s.past
moved_fits s part there fit _ h = tt

pub block_fits : (d : Declared) (c : Cell) (n : ℕ) → block_in c ≡ Some n → Fits d c → n < length d.instances
block_fits d (cell.Block k) n h fits = subst (λ m. m < length d.instances) (same_Some k n h) fits
block_fits d _ n h fits = absurd (none-some _ h)
