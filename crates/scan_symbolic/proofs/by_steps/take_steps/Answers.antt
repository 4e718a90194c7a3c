use Rattle.std.proofs.Common.{◌∙◌, ap, true}
use Rattle.scan_cycle.specs.Cells.{Frame}
use Rattle.scan_cycle.specs.Programs.{diagram_of}
use Rattle.scan_symbolic.specs.Stepping.{all_gone, going}
use Rattle.scan_symbolic.proofs.GoneSizes.{gone_sizes}
use Rattle.scan_symbolic.proofs.Sizes.{begin_size}
use Rattle.scan_symbolic.proofs.by_steps.take_steps.Goals as goal

pub run_steps-requires-clause-values : goal.run_steps-requires-clause-values
run_steps-requires-clause-values g c =
    begin_size g.S.Operations.algebra (diagram_of c.args.base.program.now) c.args.inputs.now c.args.base.storage.now c.begin.new.seen c.begin.ensures
    ∙ c.requires.fits

pub returns-clause-values : goal.returns-clause-values
returns-clause-values g c =
    let o = g.S.Operations.algebra in
    let p = c.args.base.program.now in
    let h = c.args.base.storage.now in
    record {
      taken = c.clear.new.taken;
      as_many = c.clear.ensures.length ∙ c.requires.taken;
      none = c.clear.ensures.off;
      links = c.set_rails.new.links;
      long = c.set_rails.ensures.length;
      on = c.set_rails.ensures.on;
      off = c.set_rails.ensures.off;
      are =
          ap (λ (f : Frame _). f.values) c.run_steps.ensures
          ∙ ap (λ (f : Frame _). (all_gone o p h.kept c.args.base.now c.args.steps.now (going f c.clear.new.taken c.set_rails.new.links (o.known true))).frame.values) c.begin.ensures;
    }

pub returns-clause-sizes : goal.returns-clause-sizes
returns-clause-sizes g c =
    gone_sizes g.S.Operations.algebra c.args.base.program.now c.args.base.now c.args.inputs.now c.args.base.storage.now c.args.steps.now _ c.run_steps.new.seen c.begin.ensures c.run_steps.ensures
