use Rattle.std.proofs.Common.{◌∙◌, ap, length, subst}
use Rattle.std.proofs.lemmas.List.{length-map, with_items_is}
use Rattle.scan_cycle.specs.Rung.{Held}
use Rattle.scan_symbolic.specs.BySteps.{AreLeftBy}
use Rattle.scan_symbolic.proofs.by_steps.look_by_steps.Goals as goal

pub take_steps-requires-clause-fits : goal.take_steps-requires-clause-fits
take_steps-requires-clause-fits g c = ap (λ (h : Held). length h.values) c.storage.ensures ∙ c.requires.state.values

pub returns-clause-values : goal.returns-clause-values
returns-clause-values g c =
    subst (λ (h : Held). AreLeftBy g.S.Operations.algebra c.args.program.now c.args.now c.args.steps.now c.args.inputs.now h c.take_steps.new.seen.values)
    c.storage.ensures c.take_steps.ensures.values

pub returns-clause-fits : goal.returns-clause-fits
returns-clause-fits g c =
    let sizes = c.take_steps.ensures.sizes in
    record {
      rungs =
          ap length (with_items_is c.work.inside.taken c.take_steps.new.taken (c.take_steps.auto.taken ∙ c.deref_mut.ensures.len))
          ∙ c.take_steps.auto.taken
          ∙ ap length c.deref_mut.ensures.value
          ∙ ap (λ w. w.rungs) c.work.view_is
          ∙ c.requires.work.rungs;
      values = sizes.values ∙ ap (λ (h : Held). length h.values) c.storage.ensures ∙ c.requires.state.values;
      instances =
          sizes.ends
          ∙ ap (λ (h : Held). length h.kept.blocks) c.storage.ensures
          ∙ c.checked-2.ensures.sound.as_many
          ∙ ap length c.requires.state.kinds
          ∙ length-map c.args.program.now.decls.instances (λ i. i.kind);
    }

pub returns-clause-value : goal.returns-clause-value
returns-clause-value g c = c.requires.alike c.take_steps.new.seen.values (returns-clause-values g c)

pub returns-clause-outcome : goal.returns-clause-outcome
returns-clause-outcome g c = c.value.ensures ∙ returns-clause-value g c
