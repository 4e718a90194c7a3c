use Rattle.std.proofs.Common.{◌∙◌, sym, ap, subst, length, All, List}
use Rattle.diagram_program.specs.declared.steps.Step.{Step}
use Rattle.scan_signals.specs.Likenesses.{likenesses}
use Rattle.scan_cycle.specs.Programs.{diagram_of}
use Rattle.scan_symbolic.specs.Stepping.{going, all_gone, IsWithin}
use Rattle.scan_signals.specs.declared.likeness.Likeness.TheVariants.{On}
use Rattle.scan_symbolic.proofs.Likened.{likened, likened_sizes}
use Rattle.scan_symbolic.proofs.Sizes.{begin_size}
use Rattle.scan_symbolic.proofs.StepLaws.{all_within}
use Rattle.scan_symbolic.proofs.likening.liken_rungs.Goals as goal

pub run_steps-requires-clause-steps : goal.run_steps-requires-clause-steps
run_steps-requires-clause-steps c =
    let p = c.args.base.program.now in
    subst (λ (ss : List Step). All (IsWithin p.rungs (length p.decls.vars)) ss) (sym c.steps.ensures) (all_within p c.requires.program c.requires.formed)

pub run_steps-requires-clause-values : goal.run_steps-requires-clause-values
run_steps-requires-clause-values c =
    begin_size likenesses (diagram_of c.args.base.program.now) c.args.inputs.now c.args.base.storage.now c.begin.new.seen c.begin.ensures
    ∙ c.requires.fits

pub returns-clause-values : goal.returns-clause-values
returns-clause-values c =
    let p = c.args.base.program.now in
    let h = c.args.base.storage.now in
    likened p c.requires.program c.args.base.now h c.args.inputs.now c.begin.new.seen c.begin.ensures c.clear.new.taken c.set_rails.new.links c.run_steps.new.seen
    c.set_rails.ensures.length c.set_rails.ensures.on c.set_rails.ensures.off (c.clear.ensures.length ∙ c.requires.taken) c.clear.ensures.off
    (c.run_steps.ensures ∙ ap (λ (ss : List Step). (all_gone likenesses p h.kept c.args.base.now ss (going c.begin.new.seen c.clear.new.taken c.set_rails.new.links On)).frame) c.steps.ensures)

pub returns-clause-sizes : goal.returns-clause-sizes
returns-clause-sizes c =
    let p = c.args.base.program.now in
    let h = c.args.base.storage.now in
    likened_sizes p c.requires.program c.args.base.now h c.args.inputs.now c.begin.new.seen c.begin.ensures c.clear.new.taken c.set_rails.new.links c.run_steps.new.seen
    c.set_rails.ensures.length c.set_rails.ensures.on c.set_rails.ensures.off (c.clear.ensures.length ∙ c.requires.taken) c.clear.ensures.off
    (c.run_steps.ensures ∙ ap (λ (ss : List Step). (all_gone likenesses p h.kept c.args.base.now ss (going c.begin.new.seen c.clear.new.taken c.set_rails.new.links On)).frame) c.steps.ensures)
