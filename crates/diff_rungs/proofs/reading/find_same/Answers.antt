use Rattle.std.proofs.Common.{refl}
use Rattle.diagram_program.specs.Gates.{gates_of}
use Rattle.diff_rungs.proofs.Linking.{each_more, each_of}
use Rattle.diff_rungs.proofs.reading.find_same.Goals as goal

pub loop-n-preserved : goal.loop-n-preserved
loop-n-preserved c = each_more _ c.gates-olds.result.now c.gates-news.result.now c.loop-n.n _ _ c.loop-n.invariant (c.if-not-give_same.ensures refl)

pub returns : goal.returns
returns c = λ found.
    each_of _ c.gates-olds.result.now c.gates-news.result.now (gates_of c.args.versions.old.now c.args.rungs.old) (gates_of c.args.versions.new.now c.args.rungs.new) c.loop-n.n
    c.gates-olds.ensures c.gates-news.ensures c.if-olds-news.false c.loop-n-test.false c.loop-n.invariant
