use Rattle.std.proofs.Common.{◌≡◌, ◌∙◌, ap, arith, length, refl}
use Rattle.diagram_program.specs.Gates.{actions_of}
use Rattle.diff_rungs.proofs.Acting.{keep_all, keep_more, keep_none}
use Rattle.diff_rungs.proofs.writing.write_each.Goals as goal

pub loop-n-init : goal.loop-n-init
loop-n-init c = record {
  same = keep_none c.args.versions.matching.now c.args.versions.old.now c.args.versions.new.now c.args.start.now c.args.marks.now c.actions-olds.result.now c.actions-news.result.now;
  many = record { variables = refl; instances = refl; memories = refl };
}

pub loop-n-preserved : goal.loop-n-preserved
loop-n-preserved c =
    let old : length c.actions-olds.result.now ≡ length (actions_of c.args.versions.old.now c.args.rungs.old) = ap length c.actions-olds.ensures in
    let new : length c.actions-news.result.now ≡ length (actions_of c.args.versions.new.now c.args.rungs.new) = ap length c.actions-news.ensures in
    record {
      same = keep_more c.args.versions.matching.now c.args.versions.old.now c.args.versions.new.now c.args.start.now c.args.marks.now c.loop-n.marks c.write_both.new.marks
          c.actions-olds.result.now c.actions-news.result.now c.loop-n.n _ _ c.loop-n-test.true (omega arith) c.loop-n.invariant.same c.write_both.ensures.same;
      many = record {
        variables = c.write_both.ensures.many.variables ∙ c.loop-n.invariant.many.variables;
        instances = c.write_both.ensures.many.instances ∙ c.loop-n.invariant.many.instances;
        memories = c.write_both.ensures.many.memories ∙ c.loop-n.invariant.many.memories;
      };
    }

pub returns-clause-same : goal.returns-clause-same
returns-clause-same c =
    let old : length c.actions-olds.result.now ≡ length (actions_of c.args.versions.old.now c.args.rungs.old) = ap length c.actions-olds.ensures in
    let new : length c.actions-news.result.now ≡ length (actions_of c.args.versions.new.now c.args.rungs.new) = ap length c.actions-news.ensures in
    keep_all c.args.versions.matching.now c.args.versions.old.now c.args.versions.new.now c.args.start.now c.args.marks.now c.loop-n.marks
    c.actions-olds.result.now c.actions-news.result.now (actions_of c.args.versions.old.now c.args.rungs.old) (actions_of c.args.versions.new.now c.args.rungs.new) c.loop-n.n
    c.actions-olds.ensures c.actions-news.ensures c.loop-n-test.false (omega arith) c.loop-n.invariant.same
