use Rattle.std.proofs.Common.{◌↔◌, ℕ, IsTrue, true, false, refl}
use Rattle.std.proofs.lemmas.List.{get_or-replicate}
use Rattle.diagram_program.specs.Program.{Drawing}
use Rattle.diagram_program.specs.declared.geometry.TheConstants.{ROWS}
use Rattle.text_warnings.specs.Ways.{IsWired}
use Rattle.text_warnings.proofs.wired.wired.Goals as goal

rail : (d : Drawing) (rung row : ℕ) → IsTrue true ↔ IsWired d rung 0 row
unfolding IsWired
rail d rung row = (λ h. tt, λ h. refl)

pub loop-before-init : goal.loop-before-init
loop-before-init c row h = rw (get_or-replicate ROWS row true false h) (rail c.args.program.now c.args.rung row)
