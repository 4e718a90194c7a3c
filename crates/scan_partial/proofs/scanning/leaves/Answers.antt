use Rattle.std.proofs.Common.{◌∙◌, ap, sym}
use Rattle.scan_cycle.specs.Gating.{among}
use Rattle.scan_symbolic.proofs.Exits.{taken_exit, taken_none}
use Rattle.scan_partial.proofs.scanning.leaves.Goals as goal

pub returns-in-Some : goal.returns-in-Some
returns-in-Some g c =
    let o = g.S.Operations.algebra in
    c.and.ensures ∙ ap (o.meet c.args.guard) c.link_at.ensures
    ∙ taken_exit c.args.program.now c.args.rung o c.args.guard (among o c.args.links.now) c.in-Some.exit (sym c.exit.ensures ∙ c.in-Some.is)

pub returns-in-None : goal.returns-in-None
returns-in-None g c =
    let o = g.S.Operations.algebra in
    c.known.ensures ∙ taken_none c.args.program.now c.args.rung o c.args.guard (among o c.args.links.now) (sym c.exit.ensures ∙ c.in-None.is)
