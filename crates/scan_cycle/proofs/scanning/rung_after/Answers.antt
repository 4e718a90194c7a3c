use Rattle.std.proofs.Common.{◌∙◌, ◌+◌, sym, ap, cond, Bool}
use Rattle.scan_signals.specs.Truth.{plain}
use Rattle.scan_cycle.specs.Gating.{among}
use Rattle.scan_cycle.proofs.Exits.{after_exit, after_none}
use Rattle.scan_cycle.proofs.scanning.rung_after.Goals as goal

pub returns-then-link_at : goal.returns-then-link_at
returns-then-link_at c =
    ap (λ (b : Bool). cond b c.in-Some.exit.target (c.args.rung + 1)) (sym c.if-link_at.true ∙ c.link_at.ensures)
    ∙ after_exit c.args.program.now c.args.rung (among plain c.args.links.now) c.in-Some.exit (sym c.exit.ensures ∙ c.in-Some.is)

pub returns-else-link_at : goal.returns-else-link_at
returns-else-link_at c =
    ap (λ (b : Bool). cond b c.in-Some.exit.target (c.args.rung + 1)) (sym c.if-link_at.false ∙ c.link_at.ensures)
    ∙ after_exit c.args.program.now c.args.rung (among plain c.args.links.now) c.in-Some.exit (sym c.exit.ensures ∙ c.in-Some.is)

pub returns-in-None : goal.returns-in-None
returns-in-None c = after_none c.args.program.now c.args.rung (among plain c.args.links.now) (sym c.exit.ensures ∙ c.in-None.is)
