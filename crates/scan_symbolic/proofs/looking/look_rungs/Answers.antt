use Rattle.std.proofs.Common.{◌∙◌, sym, ap, subst, true, length, All, List}
use Rattle.diagram_program.specs.declared.steps.Step.{Step}
use Rattle.scan_symbolic.specs.Stepping.{going, all_gone, IsWithin}
use Rattle.scan_symbolic.proofs.StepLaws.{all_within}
use Rattle.scan_symbolic.proofs.StepLooks.{by_steps}
use Rattle.scan_symbolic.proofs.looking.look_rungs.Goals as goal

pub run_steps-requires-clause-steps : goal.run_steps-requires-clause-steps
run_steps-requires-clause-steps g c =
    let p = c.args.base.program.now in
    subst (λ (ss : List Step). All (IsWithin p.rungs (length p.decls.vars)) ss) (sym c.steps.ensures) (all_within p c.requires.program c.requires.formed)

pub returns : goal.returns
returns g c =
    let s = g.S.Operations in
    let o = g.S.Operations.algebra in
    let p = c.args.base.program.now in
    let k = c.args.base.storage.now.kept in
    by_steps o s.value g.met.S.Signal.lattice p k c.args.base.now c.args.seen.now c.requires.values c.requires.program c.clear.new.taken c.set_rails.new.links c.run_steps.new.seen
    (record { long = c.set_rails.ensures.length; on = c.set_rails.ensures.on; off = c.set_rails.ensures.off })
    (c.clear.ensures.length ∙ c.requires.taken)
    c.clear.ensures.off
    (c.run_steps.ensures ∙ ap (λ (ss : List Step). (all_gone o p k c.args.base.now ss (going c.args.seen.now c.clear.new.taken c.set_rails.new.links (o.known true))).frame) c.steps.ensures)
