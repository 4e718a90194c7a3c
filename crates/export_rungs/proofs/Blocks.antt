-- What leaves the cell of a block.
use Rattle.std.proofs.Common.{◌≡◌, ℕ, ◌+◌, ◌/◌, ◌%◌, Bool, true, false, if◌then◌else◌, get_or, refl, sym, ap, ap₂, ◌∙◌, arith, inl, inr}
use Rattle.std.proofs.lemmas.Bool.{cases_Bool}
use Rattle.diagram_declarations.specs.declared.kind.BlockKind.TheVariants.{Ton}
use Rattle.diagram_program.specs.declared.geometry.TheConstants.{ROWS}
use Rattle.diagram_program.specs.declared.cell.Cell.{Cell}
use Rattle.diagram_program.specs.declared.cell.Cell.TheVariants.{Block}
use Rattle.diagram_program.specs.Program.{Drawing}
use Rattle.scan_signals.specs.Blocks.{new_block, q_of, step}
use Rattle.scan_signals.specs.Truth.{plain}
use Rattle.scan_cycle.specs.Cells.{Frame, Kept}
use Rattle.scan_cycle.specs.Gating.{own}
use Rattle.scan_cycle.specs.Rung.{link, lower, second}
use Rattle.scan_cycle.specs.Programs.{IsSound, diagram_of}
use Rattle.scan_cycle.proofs.Feeders.{place_is}
use Rattle.draw_power.specs.Power.{left, right}

by_inputs : (q : Bool → Bool → Bool) (x y : Bool) → (if x then (if y then q true true else q true false) else (if y then q false true else q false false)) ≡ q x y
by_inputs q true true = refl
by_inputs q true false = refl
by_inputs q false true = refl
by_inputs q false false = refl

module _ (d : Drawing) (rung : ℕ) (k : Kept) (now : ℕ) (f : Frame Bool) (sound : IsSound (diagram_of d)) where
  abbrev links : ℕ → Bool
  links = link plain (diagram_of d) k now rung f

  below : (place : ℕ) → lower plain ((diagram_of d).linked rung place) (left d rung k now f (place % ROWS + 1) (place / ROWS)) ≡ second plain (diagram_of d) rung links place
  below place = elim (cases_Bool ((diagram_of d).linked rung place)) [
    | inl t ↦
        let small = (sound.linked rung place t).0 in
        let row : place % ROWS + 1 ≡ (place + 1) % ROWS = omega (arith, small) in
        let column : place / ROWS ≡ (place + 1) / ROWS = omega (arith, small) in
        ap (lower plain ((diagram_of d).linked rung place)) (ap₂ (left d rung k now f) row column)
    | inr t ↦
        ap (λ b. lower plain b (left d rung k now f (place % ROWS + 1) (place / ROWS))) t
        ∙ sym (ap (λ b. lower plain b (links (place + 1))) t)
  ]

  pub block_right : (place i : ℕ) → (diagram_of d).cell rung place ≡ Block i → right d rung k now f (place / ROWS) (place % ROWS)
      ≡ q_of (step ((diagram_of d).kind i) ((diagram_of d).preset i) (get_or k.blocks i (new_block Ton)) (links place) (second plain (diagram_of d) rung links place) now)
  unfolding right
  block_right place i is =
      ap (λ n. own plain (diagram_of d) k now f ((diagram_of d).cell rung n) (links place) (lower plain ((diagram_of d).linked rung n) (left d rung k now f (place % ROWS + 1) (place / ROWS)))) (place_is place)
      ∙ ap (λ (c : Cell). own plain (diagram_of d) k now f c (links place) (lower plain ((diagram_of d).linked rung place) (left d rung k now f (place % ROWS + 1) (place / ROWS)))) is
      ∙ by_inputs (λ x y. q_of (step ((diagram_of d).kind i) ((diagram_of d).preset i) (get_or k.blocks i (new_block Ton)) x y now)) (links place) _
      ∙ ap (λ y. q_of (step ((diagram_of d).kind i) ((diagram_of d).preset i) (get_or k.blocks i (new_block Ton)) (links place) y now)) (below place)
