use Rattle.std.proofs.Common.{◌∙◌, sym, ap, arith, length}
use Rattle.scan_cycle.specs.Cells.{Frame}
use Rattle.scan_symbolic.specs.Stepping.{Going, going}
use Rattle.scan_symbolic.proofs.StepWise.{values_length, links_length, taken_length, go_more, go_end, went}
use Rattle.scan_symbolic.proofs.steps.run_steps.Goals as goal

pub loop-step-preserved : goal.loop-step-preserved
loop-step-preserved g c =
    let o = g.S.Operations.algebra in
    let p = c.args.base.program.now in
    let k = c.args.base.storage.now.kept in
    let now = c.args.base.now in
    let l = c.loop-step in
    let t = c.take-guard.ensures in
    record {
      values = ap (λ (f : Frame _). length f.values) t.seen ∙ values_length o p k now l.guard _ _ l.seen ∙ l.invariant.values;
      links = ap length t.links ∙ links_length o p k now l.seen _ l.links ∙ l.invariant.links;
      taken = ap length t.taken ∙ taken_length o p k now l.guard l.links _ l.taken ∙ l.invariant.taken;
      gone =
          go_more o p k now c.args.steps.now l.step-index _ (going l.seen l.taken l.links l.guard) _ (omega arith)
          (went o p k now _ l.seen _ l.taken _ l.links _ l.guard _ t.guard t.taken t.links t.seen)
          ∙ l.invariant.gone;
    }

pub returns : goal.returns
returns g c =
    let o = g.S.Operations.algebra in
    let p = c.args.base.program.now in
    let k = c.args.base.storage.now.kept in
    let l = c.loop-step in
    ap (λ (x : Going _). x.frame) (sym (go_end o p k c.args.base.now c.args.steps.now l.step-index (going l.seen l.taken l.links l.guard) (omega arith)) ∙ l.invariant.gone)
