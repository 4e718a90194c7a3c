use Rattle.std.proofs.Common.{◌∙◌, ap, length, subst}
use Rattle.std.proofs.lemmas.List.{length-map, with_items_is}
use Rattle.scan_signals.specs.Likenesses.{AreLike}
use Rattle.scan_cycle.specs.Programs.{diagram_of}
use Rattle.scan_symbolic.specs.Look.{after_look}
use Rattle.scan_cycle.specs.Rung.{Held}
use Rattle.scan_signals.specs.Truth.{plain}
use Rattle.scan_symbolic.proofs.likening.liken.Goals as goal

pub liken_rungs-requires-clause-fits : goal.liken_rungs-requires-clause-fits
liken_rungs-requires-clause-fits c = ap (λ (h : Held). length h.values) c.storage.ensures ∙ c.requires.state.values

pub returns-clause-values : goal.returns-clause-values
returns-clause-values c xs ys like =
    let d = diagram_of c.args.program.now in
    subst (λ (h : Held). AreLike c.liken_rungs.new.seen.values (after_look plain d c.args.now xs h) (after_look plain d c.args.now ys h))
    c.storage.ensures (c.liken_rungs.ensures.values xs ys like)

pub returns-clause-fits : goal.returns-clause-fits
returns-clause-fits c =
    let sizes = c.liken_rungs.ensures.sizes in
    record {
      rungs =
          ap length (with_items_is c.work.inside.taken c.liken_rungs.new.taken (c.liken_rungs.auto.taken ∙ c.deref_mut.ensures.len))
          ∙ c.liken_rungs.auto.taken
          ∙ ap length c.deref_mut.ensures.value
          ∙ ap (λ w. w.rungs) c.work.view_is
          ∙ c.requires.work.rungs;
      values = sizes.values ∙ ap (λ (h : Held). length h.values) c.storage.ensures ∙ c.requires.state.values;
      instances =
          sizes.ends
          ∙ ap (λ (h : Held). length h.kept.blocks) c.storage.ensures
          ∙ c.checked-3.ensures.sound.as_many
          ∙ ap length c.requires.state.kinds
          ∙ length-map c.args.program.now.decls.instances (λ i. i.kind);
    }
