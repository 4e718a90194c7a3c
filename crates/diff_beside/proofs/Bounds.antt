-- How large the numbers in a program are.
use Rattle.std.proofs.Common.{◌≡◌, ◌∙◌, ◌+◌, ◌*◌, ◌/◌, ◌%◌, ◌<◌, ◌≤◌, ◌^◌, ℕ, Option, Some, None, ap, arith, length, refl}
use Rattle.std.proofs.lemmas.List.Sums.{count_by-le-length}
use Rattle.diagram_declarations.specs.declared.limits.TheConstants.{MOST_INSTANCES}
use Rattle.diagram_program.specs.declared.cell.Cell.{Cell}
use Rattle.diagram_program.specs.declared.cell.Cell.TheVariants as cell
use Rattle.diagram_program.specs.declared.cell.Operand.TheVariants as operand
use Rattle.diagram_program.specs.declared.geometry.TheConstants.{PLACES, RUNGS}
use Rattle.diagram_program.specs.declared.site.Site.{Site}
use Rattle.diagram_program.specs.Program.{Drawing, Fits, IsWellFormed, IsWhole, cell_in, goes_to, has_memory, memories_of, memory_in}
use Rattle.diff_beside.specs.Moving.{IsSmall, IsSmallMemory}

pub few_memories : (d : Drawing) → IsWhole d → memories_of d ≤ PLACES * RUNGS
few_memories d whole = omega (arith, count_by-le-length (λ (s : Site). has_memory s.cell) d.sites, whole.few, whole.size)

small_memory : (o : Option ℕ) → ((n : ℕ) → o ≡ Some n → n < 2 ^ 32) → IsSmallMemory o
small_memory (Some n) h = h n refl
small_memory None h = tt

module _ (d : Drawing) (whole : IsWhole d) (formed : IsWellFormed d) (few : length d.decls.instances ≤ MOST_INSTANCES) where
  memories_small : (i n : ℕ) → memory_in (cell_in d i) ≡ Some n → n < 2 ^ 32
  memories_small i n h = omega (arith, formed.memories_below n i h, few_memories d whole)

  target_small : (i t : ℕ) → goes_to d.rungs (cell_in d i) ≡ Some t → t < 2 ^ 32
  target_small i t h =
      let within : i % PLACES < PLACES = omega arith in
      let here : PLACES * (i / PLACES) + i % PLACES ≡ i = omega arith in
      let j = formed.jumps_down (i / PLACES) (i % PLACES) t within (ap (λ n. goes_to d.rungs (cell_in d n)) here ∙ h) in
      omega (arith, j.1, whole.few)

  small_cell : (c : Cell) → Fits d.decls c → ((n : ℕ) → memory_in c ≡ Some n → n < 2 ^ 32) → ((t : ℕ) → goes_to d.rungs c ≡ Some t → t < 2 ^ 32) → IsSmall c
  small_cell (cell.Contact mode (operand.Var var) memory) fits m t = (tt, small_memory memory m)
  small_cell (cell.Contact mode (operand.Output inst) memory) fits m t = (omega (arith, fits, few), small_memory memory m)
  small_cell (cell.Coil mode var memory) fits m t = small_memory memory m
  small_cell (cell.Block inst) fits m t = omega (arith, fits, few)
  small_cell (cell.Lower inst linked) fits m t = omega (arith, fits, few)
  small_cell (cell.Jump target) fits m t = t target refl
  small_cell _ fits m t = tt

  pub all_small : (i : ℕ) → IsSmall (cell_in d i)
  all_small i = small_cell (cell_in d i) (formed.fits i) (memories_small i) (target_small i)
