use Rattle.std.proofs.Common.{⊎_elim, ◌∙◌, refl, sym, ◌≡◌, ◌+◌, ◌-◌, ◌<◌, ◌↔◌, ℕ, arith}
use Rattle.std.proofs.lemmas.Bool.{true≢false}
use Rattle.diagram_program.specs.declared.geometry.TheConstants.{COLUMNS, ROWS}
use Rattle.diagram_program.specs.Program.{Drawing}
use Rattle.text_warnings.specs.Below.{SomeBelow}
use Rattle.text_warnings.specs.Decided.{route_step}
use Rattle.text_warnings.specs.Deciding.{next_below}
use Rattle.text_warnings.specs.Leading.{RouteBegins}
use Rattle.text_warnings.specs.Routes.{HasRoute}
use Rattle.text_warnings.proofs.leading.leads.Goals as goal

all_rows : (d : Drawing) (rung from count row : ℕ) → row ≡ ROWS → count + 1 < COLUMNS
    → SomeBelow row (RouteBegins d rung from count) ↔ HasRoute d rung from (COLUMNS - (count + 1 + 1))
all_rows d rung from count row e few =
    let next : COLUMNS - (count + 1) ≡ COLUMNS - (count + 1 + 1) + 1 = omega (arith, few) in
    rw (e, next) (route_step d rung from (COLUMNS - (count + 1 + 1)) (omega (arith, few)))

pub loop-row-preserved : goal.loop-row-preserved
loop-row-preserved c some = ⊎_elim c.loop-row.invariant
    (λ begins. true≢false (sym (c.leads_through.ensures.1 begins) ∙ c.if-leads_through.false))
    ((next_below (RouteBegins c.args.program.now c.args.rung c.args.from c.args.count) c.loop-row.row).1 some)

pub returns-then-leads_through : goal.returns-then-leads_through
returns-then-leads_through c =
    let all = all_rows c.args.program.now c.args.rung c.args.from c.args.count ROWS refl c.requires.columns in
    (λ h. all.0 (c.loop-row.row, c.loop-row-test.true, c.leads_through.ensures.0 c.if-leads_through.true), λ h. refl)

pub returns : goal.returns
returns c =
    let end : c.loop-row.row ≡ ROWS = omega (arith, c.loop-row-test.false, c.loop-row.auto.row-end) in
    (λ h. absurd (true≢false (sym h)), λ h. absurd (c.loop-row.invariant ((all_rows c.args.program.now c.args.rung c.args.from c.args.count c.loop-row.row end c.requires.columns).1 h)))
