use Rattle.std.proofs.Common.{◌≡◌, ◌+◌, ◌*◌, true, arith, sym}
use Rattle.std.proofs.lemmas.Bool.{true≢false}
use Rattle.diagram_program.specs.declared.geometry.TheConstants.{COLUMNS}
use Rattle.diagram_page.specs.Page.{form_at}
use Rattle.diagram_page.specs.Form.{leaps}
use Rattle.diagram_page.specs.Seen.{seen}
use Rattle.diagram_page.proofs.ReadingOrder.{at_row, less_place}
use Rattle.diagram_reader.proofs.rules.is_second_jump.Goals as goal

pub returns : goal.returns
returns c = (
  λ h. absurd (true≢false (sym h)),
  λ d. absurd (c.loop-n.invariant (COLUMNS * d.1.1 + d.1.2) (omega (arith, less_place d.1.0 d.1.1 d.1.2 c.args.at.rung c.args.at.row c.args.at.column d.1.4 d.1.3 d.1.5, d.1.6.0, c.loop-n-test.false))
      (at_row (λ r b. leaps (form_at (seen c.args.page) c.args.at.rung r b) ≡ true) d.1.1 d.1.2 d.1.4 d.1.6.1)),
)
