use Rattle.std.proofs.Common.{◌+◌, ap, arith, length, subst, sym}
use Rattle.std.proofs.lemmas.Option.{slice_get_within}
use Rattle.diff_matching.specs.Names.{AreAll, AreOneInstance}
use Rattle.diff_matching.proofs.Pairing.{Below, all_found, one_more}
use Rattle.diff_matching.proofs.names.instances.Goals as goal

pub loop-inst-preserved : goal.loop-inst-preserved
loop-inst-preserved c =
    let One = AreOneInstance c.args.old.now c.args.new.now in
    let more = one_more One c.loop-inst.inst c.instance_in.result c.loop-inst.pairs.items c.instance_in.ensures c.loop-inst.invariant in
    subst (AreAll (Below One (c.loop-inst.inst + 1))) (sym c.in_ok-add.ensures) more

pub returns : goal.returns
returns c =
    let p = c.args.old.now in
    let all = ap length c.instances-inst-end.ensures.value in
    all_found (AreOneInstance p c.args.new.now) c.loop-inst.inst c.loop-inst.pairs.items
    (λ x h. let within = slice_get_within p.instances x.old h.of_old h.old in omega arith) c.loop-inst.invariant
