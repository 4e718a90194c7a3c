use Rattle.std.proofs.Common.{◌+◌, ap, arith, length, subst, sym}
use Rattle.std.proofs.lemmas.Option.{slice_get_within}
use Rattle.diff_matching.specs.Names.{AreAll, AreOneOfSort}
use Rattle.diff_matching.proofs.Pairing.{Below, all_found, one_more}
use Rattle.diff_matching.proofs.names.variables.Goals as goal

pub loop-var-preserved : goal.loop-var-preserved
loop-var-preserved c =
    let One = AreOneOfSort c.args.inputs c.args.old.now c.args.new.now in
    let more = one_more One c.loop-var.var c.one_of_sort.result c.loop-var.pairs.items c.one_of_sort.ensures c.loop-var.invariant in
    subst (AreAll (Below One (c.loop-var.var + 1))) (sym c.in_ok-add.ensures) more

pub returns : goal.returns
returns c =
    let p = c.args.old.now in
    let all = ap length c.vars-var-end.ensures.value in
    all_found (AreOneOfSort c.args.inputs p c.args.new.now) c.loop-var.var c.loop-var.pairs.items
    (λ x h. let within = slice_get_within p.vars x.old h.0.of_old h.0.old in omega arith) c.loop-var.invariant
