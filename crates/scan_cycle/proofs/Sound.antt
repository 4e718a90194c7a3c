-- What the rules of a drawing make sure of holds for the scan.
use Rattle.std.proofs.Common.{◌≡◌, ℕ, ◌+◌, ◌*◌, ◌%◌, ◌<◌, ◌≤◌, Bool, true, false, cond, ◌&&◌, slice_get, nat_lt, Option, Some, None, refl, sym, ap, ◌∙◌, arith, subst}
use Rattle.std.proofs.lemmas.Bool.Decides.{nat_tests}
use Rattle.std.specs.Prelude.{option_map, unwrap_or}
use Rattle.diagram_declarations.specs.declared.kind.BlockKind.TheVariants.{Ton}
use Rattle.scan_cycle.specs.Cells.{place_at}
use Rattle.diagram_declarations.specs.declared.decls.Instance.{Instance}
use Rattle.diagram_declarations.specs.Decls.{AreInRange}
use Rattle.diagram_declarations.specs.Kind.{largest_preset}
use Rattle.std.proofs.lemmas.Option.{get_or_from_slice_get, slice_get_within, none-some}
use Rattle.std.proofs.lemmas.Bool.{and_parts}
use Rattle.diagram_program.specs.declared.geometry.TheConstants.{ROWS, PLACES}
use Rattle.diagram_program.specs.declared.cell.Cell.{Cell}
use Rattle.diagram_program.specs.declared.cell.Cell.TheVariants.{Empty}
use Rattle.diagram_program.specs.Program.{Drawing, cell_of, goes_to, jump_of, memory_in, block_in, IsWellFormed, is_linked}
use Rattle.scan_cycle.specs.Laws.{Once, Forward}
use Rattle.scan_cycle.specs.Programs.{cell_at, diagram_of, is_filled, IsSound}
use Rattle.diagram_program.proofs.JumpLaws.{jump_placed}
use Rattle.scan_cycle.proofs.Feeders.{cell_is}

off_on : false ≡ true → ⊥
off_on h = cc

-- ---- a cell that has a memory or an instance stands within its rung
within : (e : ℕ) → nat_lt e PLACES ≡ true → e < PLACES
within e h = grind (arith, nat_tests)

-- what holds of a place where something stands
memory_here : (p : Drawing) (j e i : ℕ) (b : Bool) → nat_lt e PLACES ≡ b → memory_in (cond b (cell_of p j e) Empty) ≡ Some i → (e < PLACES) × (memory_in (cell_of p j e) ≡ Some i)
memory_here p j e i true t h = (within e t, h)
memory_here p j e i false t h = absurd (none-some _ h)

block_here : (p : Drawing) (j e i : ℕ) (b : Bool) → nat_lt e PLACES ≡ b → block_in (cond b (cell_of p j e) Empty) ≡ Some i → (e < PLACES) × (block_in (cell_of p j e) ≡ Some i)
block_here p j e i true t h = (within e t, h)
block_here p j e i false t h = absurd (none-some _ h)

same_rung : (j e h g : ℕ) → e < PLACES → g < PLACES → PLACES * j + e ≡ PLACES * h + g → (j ≡ h) × (e ≡ g)
same_rung j e h g e60 g60 s = (omega arith, omega arith)

once : (p : Drawing) → IsWellFormed p → Once (diagram_of p)
unfolding diagram_of
once p w = record {
  memory = λ i j e h g a b.
      let x : (e < PLACES) × (memory_in (cell_of p j e) ≡ Some i) = memory_here p j e i (nat_lt e PLACES) refl a in
      let y : (g < PLACES) × (memory_in (cell_of p h g) ≡ Some i) = memory_here p h g i (nat_lt g PLACES) refl b in
      same_rung j e h g x.0 y.0 (w.one_memory i (PLACES * j + e) (PLACES * h + g) x.1 y.1);
  block = λ i j e h g a b.
      let x : (e < PLACES) × (block_in (cell_of p j e) ≡ Some i) = block_here p j e i (nat_lt e PLACES) refl a in
      let y : (g < PLACES) × (block_in (cell_of p h g) ≡ Some i) = block_here p h g i (nat_lt g PLACES) refl b in
      same_rung j e h g x.0 y.0 (w.one_block i (PLACES * j + e) (PLACES * h + g) x.1 y.1);
}

-- ---- linked lower cells
row_is : (e : ℕ) → nat_lt (e % ROWS + 1) ROWS ≡ true → e % ROWS + 1 < ROWS
row_is e h = grind (arith, nat_tests)

linked_filled : (c : Cell) → is_linked c ≡ true → is_filled c ≡ true
linked_filled Empty h = absurd (off_on h)
linked_filled _ h = refl

linked : (p : Drawing) (j e : ℕ) → (nat_lt (e % ROWS + 1) ROWS && is_linked (cell_at p j (e + 1))) ≡ true → (e % ROWS + 1 < ROWS) × (is_filled (cell_at p j (e + 1)) ≡ true)
linked p j e h =
    let w : (nat_lt (e % ROWS + 1) ROWS ≡ true) × (is_linked (cell_at p j (e + 1)) ≡ true) = and_parts _ _ h in
    (row_is e w.0, linked_filled (cell_at p j (e + 1)) w.1)

-- ---- jumps
-- a jump with the place of its cell
abbrev pub placed : Option (ℕ × ℕ × ℕ) → Option (ℕ × ℕ)
placed jump = option_map (λ j. (place_at j.0 j.1, j.2)) jump

same_parts : (a b : ℕ × ℕ) → Some a ≡ Some b → (a.0 ≡ b.0) × (a.1 ≡ b.1)
same_parts a b h = (cc, cc)

-- the jump is at a place whose cell leads to its target
jump_found : (p : Drawing) (j : ℕ) (found : Option (ℕ × ℕ × ℕ)) (place target : ℕ) → jump_of p j ≡ found → placed found ≡ Some (place, target)
    → (place < PLACES) × (goes_to p.rungs (cell_of p j place) ≡ Some target)
jump_found p j None place target is e = absurd (none-some _ e)
jump_found p j (Some k) place target is e =
    let stands = jump_placed p j k is in
    let same = same_parts (place_at k.0 k.1, k.2) (place, target) e in
    (omega (arith, same.0, stands.0, stands.1), ap (λ n. goes_to p.rungs (cell_of p j n)) (sym same.0) ∙ stands.2 ∙ ap Some same.1)

jump_at : (p : Drawing) (j place target : ℕ) → (diagram_of p).jump j ≡ Some (place, target)
    → (place < PLACES) × (goes_to p.rungs (cell_of p j place) ≡ Some target)
unfolding diagram_of
jump_at p j place target e = jump_found p j (jump_of p j) place target refl e

forward : (p : Drawing) → IsWellFormed p → Forward (diagram_of p)
forward p w j place target e =
    let at = jump_at p j place target e in
    (w.jumps_down j place target at.0 at.1).0

leads_filled : (rungs target : ℕ) (c : Cell) → goes_to rungs c ≡ Some target → is_filled c ≡ true
leads_filled rungs target Empty h = absurd (none-some _ h)
leads_filled rungs target _ h = refl

jumps : (p : Drawing) (j place target : ℕ) → (diagram_of p).jump j ≡ Some (place, target)
    → (place < PLACES) × (is_filled ((diagram_of p).cell j place) ≡ true)
unfolding diagram_of
jumps p j place target e =
    let at = jump_at p j place target e in
    (at.0, ap is_filled (cell_is p j place at.0) ∙ leads_filled p.rungs target (cell_of p j place) at.1)

-- ---- presets
presets : (p : Drawing) → AreInRange p.decls → (i : ℕ) (found : Option Instance) → slice_get p.decls.instances i ≡ found
    → unwrap_or (option_map (λ (x : Instance). x.preset) found) 0 ≤ largest_preset (unwrap_or (option_map (λ (x : Instance). x.kind) found) Ton)
presets p kept i None e = omega arith
presets p kept i (Some instance) e =
    subst (λ (x : Instance). x.preset ≤ largest_preset x.kind) (get_or_from_slice_get p.decls.instances i instance instance e)
    (kept.presets i instance (slice_get_within p.decls.instances i instance e))

pub sound : (p : Drawing) → IsWellFormed p → AreInRange p.decls → IsSound (diagram_of p)
unfolding diagram_of
sound p w kept = record {
  presets = λ i. presets p kept i (slice_get p.decls.instances i) refl;
  once = once p w;
  linked = linked p;
  forward = forward p w;
  jumps = jumps p;
}
