use Rattle.std.proofs.Common.{◌≡◌, ◌%◌, ◌/◌, ℕ, ◌<◌}
use Rattle.diagram_program.specs.declared.geometry.TheConstants.{ROWS}
use Rattle.clp_meaning.specs.declared.meaning.Meaning.TheVariants as meaning
use Rattle.clp_meaning.specs.Sheets.{element_at, meaning_at}
use Rattle.clp_meaning.proofs.sheet.is_drawn_before.Given as goal

abbrev pub invariant-loop-place : goal.invariant-loop-place
invariant-loop-place l =
    (i : ℕ) → i < l.place → meaning_at l.reading l.elements (i % ROWS) (i / ROWS) ≡ meaning.Block l.sort
    → (element_at l.elements (i % ROWS) (i / ROWS)).number ≡ l.number → ⊥
