use Rattle.std.proofs.Common.{ℕ, refl, sym, subst, ◌∙◌}
use Rattle.std.proofs.lemmas.Bool.{eq-eqb, ne_eqb}
use Rattle.export_rungs.specs.Forms.{IsAssignment}
use Rattle.export_rungs.proofs.Finishing.{jumps_by, no_jump, returns_by}
use Rattle.export_rungs.proofs.jumps.behind_jump.Goals as goal

pub returns-in_default : goal.returns-in_default
returns-in_default c = λ first ready.
    no_jump c.args.at.scan.program.now c.args.at.scan.variables c.args.at.scan.jumps c.args.at.rung c.args.at.known.now c.args.number first c.args.list.now
    (sym c.jump.ensures ∙ c.in_default.is) ready

pub returns-then-target-rungs : goal.returns-then-target-rungs
returns-then-target-rungs c = λ first ready.
    returns_by c.args.at.scan.program.now c.args.at.scan.variables c.args.at.scan.jumps c.args.at.rung c.args.at.known.now
    (c.in-Some.row, c.in-Some.column, c.in-Some.target) c.args.number first c.args.list.now c.in_ok-condition.next.now c.in_ok-condition.condition.now
    (sym c.jump.ensures ∙ c.in-Some.is) (eq-eqb _ _ (c.if-target-rungs.true ∙ c.rungs.ensures.value)) c.in_ok-condition.ensures (c.if-not-shows_jump.ensures refl) ready

pub returns : goal.returns
returns c = λ first ready.
    jumps_by c.args.at.scan.program.now c.args.at.scan.variables c.args.at.scan.jumps c.args.at.rung c.args.at.known.now
    (c.in-Some.row, c.in-Some.column, c.in-Some.target) c.args.number first c.args.list.now c.in_ok-variable.next.now c.in_ok-variable.value.now
    (sym c.jump.ensures ∙ c.in-Some.is) (ne_eqb _ _ (λ e. c.if-target-rungs.false (e ∙ sym c.rungs.ensures.value))) c.in_ok-flag.ensures.few
    (subst (λ (v : ℕ). IsAssignment v c.in_ok-variable.value.now c.in_ok-variable.next.now c.args.list.now) (c.if-variable-flag.false ∙ c.in_ok-flag.ensures.flag) c.in_ok-variable.ensures)
    (c.if-not-shows_jump-2.ensures refl) ready
