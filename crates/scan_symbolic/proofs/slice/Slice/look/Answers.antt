use Rattle.std.proofs.Common.{◌≡◌, ◌∙◌, All, List, length, slice_index_or, subst, sym, false}
use Rattle.diagram_program.specs.declared.steps.Step.{Step}
use Rattle.diagram_program.specs.Steps.{steps_below}
use Rattle.scan_cycle.specs.Programs.{diagram_of}
use Rattle.scan_symbolic.specs.Look.{after_look}
use Rattle.scan_symbolic.specs.Outcomes.{left_of, outcome_of}
use Rattle.scan_symbolic.specs.Stepping.{IsWithin}
use Rattle.scan_symbolic.proofs.StepLaws.{all_within}
use Rattle.scan_symbolic.specs.Slices.{SliceOf}
use Rattle.scan_symbolic.specs.Slicing.{needs_of}
use Rattle.scan_symbolic.proofs.Agreeing.{kept_all}
use Rattle.scan_symbolic.proofs.Sliced.{sliced}
use Rattle.scan_symbolic.proofs.slice.Slice.look.Goals as goal

pub look_by_steps-requires-clause-steps : goal.look_by_steps-requires-clause-steps
look_by_steps-requires-clause-steps g c =
    let p = c.self.inside.program.now in
    subst (λ (ss : List Step). All (IsWithin p.rungs (length p.decls.vars)) ss) (sym (c.deref.ensures.value ∙ c.self.invariant))
    (kept_all (IsWithin p.rungs (length p.decls.vars)) p (steps_below p p.rungs) (needs_of p c.self.inside.var) (all_within p c.checked-2.ensures c.checked.ensures))

pub look_by_steps-requires-clause-alike : goal.look_by_steps-requires-clause-alike
look_by_steps-requires-clause-alike g c = λ values left.
    sliced g.S.Operations.algebra g.S.Operations.value g.met.S.Signal.lattice c.self.inside.program.now c.args.now c.self.inside.var c.args.inputs.now c.args.state.now.held c.deref.result.now
    values c.checked-2.ensures c.requires.inputs (c.deref.ensures.value ∙ c.self.invariant) left

pub returns-clause-value : goal.returns-clause-value
returns-clause-value g c =
    let o = g.S.Operations.algebra in
    subst
    (λ (s : SliceOf). slice_index_or c.look_by_steps.new.work.values s.variable (o.known false)
    ≡ slice_index_or (after_look o (diagram_of s.program) c.args.now c.args.inputs.now c.args.state.now.held) s.variable (o.known false))
    c.self.view_is c.look_by_steps.ensures.value

pub returns-clause-outcome : goal.returns-clause-outcome
returns-clause-outcome g c =
    subst
    (λ (s : SliceOf). outcome_of c.look_by_steps.result ≡ left_of g.S.Operations.algebra (diagram_of s.program) c.args.now c.args.inputs.now c.args.state.now.held s.variable)
    c.self.view_is c.look_by_steps.ensures.outcome
