use Rattle.std.proofs.Common.{refl, ◌≡◌, ◌+◌, ◌↔◌, ℕ, suc, subst, sym, arith, add-one}
use Rattle.std.proofs.lemmas.Bool.{true≢false}
use Rattle.diagram_program.specs.declared.geometry.TheConstants.{ROWS}
use Rattle.diagram_program.specs.Program.{Drawing}
use Rattle.text_warnings.specs.Below.{SomeBelow}
use Rattle.text_warnings.specs.Reaching.{WiresFrom}
use Rattle.text_warnings.specs.Ways.{IsWired}
use Rattle.text_warnings.proofs.wired.is_wired.Goals as goal

column_more : (d : Drawing) (rung row column : ℕ) → SomeBelow ROWS (WiresFrom d rung row column) ↔ IsWired d rung (suc column) row
unfolding IsWired
column_more d rung row column = (λ h. h, λ h. h)

all_rows : (d : Drawing) (rung row column from : ℕ) → from ≡ ROWS → SomeBelow from (WiresFrom d rung row column) ↔ IsWired d rung (column + 1) row
all_rows d rung row column from e =
    subst (λ n. SomeBelow from (WiresFrom d rung row column) ↔ IsWired d rung n row) (sym (add-one column)) (rw e (column_more d rung row column))

pub returns-then-is_wired_by : goal.returns-then-is_wired_by
returns-then-is_wired_by c =
    let all = all_rows c.args.program.now c.args.at.rung c.args.at.row c.args.at.column ROWS refl in
    (λ h. all.0 (c.loop-from.from, c.loop-from-test.true, c.is_wired_by.ensures.0 c.if-is_wired_by.true), λ h. refl)

pub returns : goal.returns
returns c =
    let end : c.loop-from.from ≡ ROWS = omega (arith, c.loop-from-test.false, c.loop-from.auto.from-end) in
    (λ h. absurd (true≢false (sym h)), λ h. absurd (c.loop-from.invariant ((all_rows c.args.program.now c.args.at.rung c.args.at.row c.args.at.column c.loop-from.from end).1 h)))
