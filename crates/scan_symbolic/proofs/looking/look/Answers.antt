use Rattle.std.proofs.Common.{◌∙◌, ap, length}
use Rattle.std.proofs.lemmas.List.{length-map, with_items_is}
use Rattle.scan_cycle.specs.Programs.{diagram_of}
use Rattle.scan_cycle.specs.Rung.{Held}
use Rattle.scan_symbolic.specs.Look.{after_look}
use Rattle.scan_symbolic.proofs.Sizes.{begin_size, look_sizes}
use Rattle.scan_symbolic.proofs.Starts.{begin_values, by_looks}
use Rattle.scan_symbolic.proofs.looking.look.Goals as goal

pub look_rungs-requires-clause-values : goal.look_rungs-requires-clause-values
look_rungs-requires-clause-values g c =
    begin_values g.S.Operations.algebra g.S.Operations.value g.met.S.Signal.lattice (diagram_of c.args.program.now) c.args.inputs.now c.requires.inputs c.storage-storage.result.now c.begin.new.seen c.begin.ensures

pub returns-clause-values : goal.returns-clause-values
returns-clause-values g c =
    let o = g.S.Operations.algebra in
    let p = c.args.program.now in
    by_looks o p c.checked-2.ensures.once c.args.now c.args.inputs.now c.storage-storage.result.now c.begin.new.seen c.look_rungs.new.seen c.begin.ensures c.look_rungs.ensures
    ∙ ap (after_look o (diagram_of p) c.args.now c.args.inputs.now) c.storage-storage.ensures

pub returns-clause-fits : goal.returns-clause-fits
returns-clause-fits g c =
    let sizes = look_sizes g.S.Operations.algebra (diagram_of c.args.program.now) c.args.now c.args.inputs.now c.storage-storage.result.now c.begin.new.seen c.look_rungs.new.seen
    c.args.program.now.rungs c.begin.ensures c.look_rungs.ensures in
    record {
      rungs =
          ap length (with_items_is c.work.inside.taken c.look_rungs.new.taken (c.look_rungs.auto.taken ∙ c.deref_mut.ensures.len))
          ∙ c.look_rungs.auto.taken
          ∙ ap length c.deref_mut.ensures.value
          ∙ ap (λ w. w.rungs) c.work.view_is
          ∙ c.requires.work.rungs;
      values = sizes.values ∙ ap (λ (h : Held). length h.values) c.storage-storage.ensures ∙ c.requires.state.values;
      instances =
          sizes.ends
          ∙ ap (λ (h : Held). length h.kept.blocks) c.storage-storage.ensures
          ∙ c.checked-3.ensures.sound.as_many
          ∙ ap length c.requires.state.kinds
          ∙ length-map c.args.program.now.decls.instances (λ i. i.kind);
    }

pub look_rungs-requires-clause-sizes : goal.look_rungs-requires-clause-sizes
look_rungs-requires-clause-sizes g c =
    begin_size g.S.Operations.algebra (diagram_of c.args.program.now) c.args.inputs.now c.storage-storage.result.now c.begin.new.seen c.begin.ensures
    ∙ ap (λ (h : Held). length h.values) c.storage-storage.ensures
    ∙ c.requires.state.values
