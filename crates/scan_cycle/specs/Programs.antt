-- A program as the scan sees it, and what reading it has made sure of.
use Rattle.std.specs.Prelude.{false, ◌≡◌, ℕ, ◌+◌, ◌%◌, ◌<◌, ◌≤◌, Bool, true, not, if◌then◌else◌, ◌&&◌, map, nat_lt, Some, option_map, unwrap_or, slice_get}
use Rattle.diagram_declarations.specs.declared.kind.BlockKind.TheVariants.{Ton}
use Rattle.diagram_declarations.specs.Decls.{is_input}
use Rattle.diagram_declarations.specs.Kind.{largest_preset}
use Rattle.diagram_program.specs.declared.geometry.TheConstants.{ROWS, PLACES}
use Rattle.diagram_program.specs.declared.cell.Cell.{Cell}
use Rattle.diagram_program.specs.declared.cell.Cell.TheVariants.{Empty, Lower}
use Rattle.diagram_program.specs.Program.{Drawing, cell_of, is_empty, feeds, jump_of}
use Rattle.scan_cycle.specs.Cells.{Diagram, place_at}
use Rattle.scan_cycle.specs.Laws.{Once, Forward}

abbrev pub cell_at : Drawing → ℕ → ℕ → Cell
cell_at p rung place = if nat_lt place PLACES then cell_of p rung place else Empty

-- An instance past the last one, which no cell names, is a TON with preset 0. A jump's cell is addressed by its place.
unfoldable pub diagram_of : Drawing → Diagram
diagram_of p = record {
  rungs = p.rungs;
  cell = cell_at p;
  feeds = feeds p;
  linked = λ rung place. nat_lt (place % ROWS + 1) ROWS && elim (cell_at p rung (place + 1)) [ Lower inst linked ↦ linked | _ ↦ false ];
  kind = λ i. unwrap_or (option_map (λ x. x.kind) (slice_get p.decls.instances i)) Ton;
  preset = λ i. unwrap_or (option_map (λ x. x.preset) (slice_get p.decls.instances i)) 0;
  jump = λ rung. option_map (λ j. (place_at j.0 j.1, j.2)) (jump_of p rung);
  inputs = map is_input p.decls.vars;
}

abbrev pub is_filled : Cell → Bool
is_filled c = not (is_empty c)

-- Presets are in range, and each memory and instance belongs to one cell; a linked lower cell is in the column of its block; a jump
-- or return is in its rung and goes to a later one, or past the last.
pub record IsSound (d : Diagram) : Type 0 where
  pub presets : (i : ℕ) → d.preset i ≤ largest_preset (d.kind i)
  pub once : Once d
  pub linked : (j place : ℕ) → d.linked j place ≡ true → (place % ROWS + 1 < ROWS) × (is_filled (d.cell j (place + 1)) ≡ true)
  pub forward : Forward d
  pub jumps : (j place target : ℕ) → d.jump j ≡ Some (place, target) → (place < PLACES) × (is_filled (d.cell j place) ≡ true)
