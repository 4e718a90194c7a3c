use Rattle.std.proofs.Common.{◌≡◌, ap, ◌∙◌, ◌&&◌, ◌-◌, ◌/◌, ◌%◌, ℕ, arith}
use Rattle.diagram_program.specs.declared.geometry.TheConstants.{ROWS}
use Rattle.diagram_program.specs.Program.{feeds}
use Rattle.text_power.specs.Ends.{any_below, any_past, is_ended}
use Rattle.text_power.proofs.RouteEnds.{any_at, below_more, ended_first, none_below}
use Rattle.text_power.proofs.ends.is_ended.Goals as goal

pub returns-then-at-lt-ROWS : goal.returns-then-at-lt-ROWS
returns-then-at-lt-ROWS c = ended_first c.args.rung.program.now c.args.rung.marks.now c.args.rung.number c.args.end c.args.at c.if-at-lt-ROWS.true

pub loop-from-init : goal.loop-from-init
loop-from-init c = none_below _

pub loop-from-preserved : goal.loop-from-preserved
loop-from-preserved c =
    let test = is_ended c.args.end c.args.rung.program.now c.args.rung.marks.now c.args.rung.number in
    let past = any_past test c.args.rung.program.now c.args.rung.number c.loop-from.from (c.args.at / ROWS - 1) in
    let fed = feeds c.args.rung.program.now c.args.rung.number (c.args.at % ROWS) (c.args.at / ROWS) c.loop-from.from in
    below_more
    (λ from. feeds c.args.rung.program.now c.args.rung.number (c.args.at % ROWS) (c.args.at / ROWS) from && any_past test c.args.rung.program.now c.args.rung.number from (c.args.at / ROWS - 1))
    c.loop-from.from c.loop-from.found c.feeds.result c.ends-past.result c.loop-from.invariant
    (ap (λ b. b && c.ends-past.result) c.feeds.ensures ∙ ap (λ b. fed && b) c.ends-past.ensures)

pub returns : goal.returns
returns c =
    let test = is_ended c.args.end c.args.rung.program.now c.args.rung.marks.now c.args.rung.number in
    let f = λ (from : ℕ). feeds c.args.rung.program.now c.args.rung.number (c.args.at % ROWS) (c.args.at / ROWS) from && any_past test c.args.rung.program.now c.args.rung.number from (c.args.at / ROWS - 1) in
    let at_end : c.loop-from.from ≡ ROWS = omega (arith, c.loop-from-test.false, c.loop-from.auto.from-end) in
    c.loop-from.invariant ∙ ap (any_below f) at_end ∙ any_at test c.args.rung.program.now c.args.rung.number c.args.at c.if-at-lt-ROWS.false
