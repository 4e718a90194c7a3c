use Rattle.std.proofs.Common.{◌∙◌, inl, inr, subst, sym}
use Rattle.diagram_declarations.specs.Decls.{Declared}
use Rattle.cli_reach.specs.Naming.{HasNameFault, IsTarget}
use Rattle.cli_reach.proofs.asking.read_asked.Goals as goal

pub returns-in-Err-target_of-clause-fault : goal.returns-in-Err-target_of-clause-fault
returns-in-Err-target_of-clause-fault c =
    let s = c.in-Ok.setting in
    inr (inl (s.program, s.state, c.in-Ok.ensures.set, rw c.decls.ensures at c.in-Err-target_of.ensures.fault))

pub returns-in-Err-inputs_of-clause-fault : goal.returns-in-Err-inputs_of-clause-fault
returns-in-Err-inputs_of-clause-fault c =
    let s = c.in-Ok.setting in
    let named = c.in-Ok-target_of in
    let target = subst (λ (d : Declared). IsTarget d c.args.request.now named.target.items) (c.decls.ensures ∙ sym c.decls-2.ensures) named.ensures.target in
    let unnamed = c.in-Err-inputs_of.ensures.fault named.target.items target in
    inr (inl (
      s.program,
      s.state,
      c.in-Ok.ensures.set,
      subst (λ (d : Declared). HasNameFault d c.args.request.now c.in-Err-inputs_of.fault) c.decls-2.ensures unnamed,
    ))
