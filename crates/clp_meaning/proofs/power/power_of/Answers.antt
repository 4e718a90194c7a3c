use Rattle.std.proofs.Common.{◌≡◌, ◌↔◌, ℕ, List, arith, false, true, IsTrue, refl}
use Rattle.std.proofs.lemmas.List.{get_or-replicate}
use Rattle.diagram_program.specs.declared.geometry.TheConstants.{ROWS}
use Rattle.clp_project.specs.declared.element.Element.{Element}
use Rattle.clp_project.specs.declared.reading.ReadingOptions.{ReadingOptions}
use Rattle.clp_meaning.specs.Sheets.{Reached}
use Rattle.clp_meaning.proofs.power.power_of.Goals as goal

at_first : (reading : ReadingOptions) (es : List Element) (row : ℕ) → IsTrue true ↔ Reached reading es 0 row
unfolding Reached
at_first reading es row = (λ h. tt, λ h. refl)

pub loop-column-init : goal.loop-column-init
loop-column-init c = (λ k none row h. let e : k ≡ 0 = omega (arith, none) in rw (e, get_or-replicate ROWS row true false h) (at_first c.args.reading c.args.elements.now row), refl)
