use Rattle.std.proofs.Common.{◌≡◌, ◌↔◌, ◌<◌, ◌≤◌, ◌-◌, ℕ, zero, suc, List, arith, below_more, refl}
use Rattle.diagram_program.specs.declared.geometry.TheConstants.{ROWS}
use Rattle.clp_project.specs.declared.element.Element.{Element}
use Rattle.clp_project.specs.declared.reading.ReadingOptions.{ReadingOptions}
use Rattle.clp_meaning.specs.Sheets.{AreTied, IsFed, Leaves, Reached}
use Rattle.clp_meaning.proofs.power.reaches.Goals as goal

onward : (reading : ReadingOptions) (es : List Element) (row column before : ℕ) → before ≡ column
    → ((q : ℕ) × (q < ROWS) × AreTied es row (suc column) q × Leaves reading es q before (Reached reading es before q) (Reached reading es before (q - 1))) ↔ Reached reading es (suc column) row
unfolding Reached
onward reading es row column before e = rw e (λ h. h, λ h. h)

-- from a row of the column before, which there is
from_some : (reading : ReadingOptions) (es : List Element) (row column : ℕ) → 1 ≤ column → ((q : ℕ) × (q < ROWS) × IsFed reading es row column q) ↔ Reached reading es column row
unfolding IsFed
from_some reading es row zero h = absurd (omega (arith, h))
from_some reading es row (suc column) h =
    let all = onward reading es row column (suc column - 1) (omega arith) in
    (λ f. all.0 (f.0, f.1, f.2.1, f.2.2), λ r. let f = all.1 r in (f.0, f.1, (h, f.2, f.3)))

pub returns-then-fed : goal.returns-then-fed
returns-then-fed c =
    (λ h. (from_some c.args.reading c.args.elements.now c.args.row c.args.column c.requires.columns.0).0 (c.loop-from.from, c.loop-from-test.true, c.fed.ensures.0 c.if-fed.true), λ h. refl)

pub loop-from-preserved : goal.loop-from-preserved
loop-from-preserved c = below_more _ _ c.loop-from.invariant (λ h. let on = c.fed.ensures.1 h in cc)

pub returns : goal.returns
returns c = (
  λ h. cc,
  λ h.
      let f = (from_some c.args.reading c.args.elements.now c.args.row c.args.column c.requires.columns.0).1 h in
      absurd (c.loop-from.invariant f.0 (omega (arith, f.1, c.loop-from-test.false)) f.2),
)
