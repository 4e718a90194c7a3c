use Rattle.std.proofs.Common.{◌+◌, ap, arith, length, subst, sym, Some}
use Rattle.std.proofs.lemmas.Option.{slice_get_within}
use Rattle.diff_matching.specs.Names.{AreAll}
use Rattle.diff_matching.specs.Names.{AreOneMemory, owners_of}
use Rattle.diff_matching.proofs.Pairing.{Below, all_found, one_more}
use Rattle.diff_matching.proofs.names.memories.Goals as goal

pub loop-number-preserved : goal.loop-number-preserved
loop-number-preserved c =
    let One = AreOneMemory c.args.old.now c.args.new.now in
    let more = one_more One c.loop-number.number c.memory_in.result c.loop-number.pairs.items c.memory_in.ensures c.loop-number.invariant in
    subst (AreAll (Below One (c.loop-number.number + 1))) (sym c.in_ok-add.ensures) more

pub returns : goal.returns
returns c =
    let p = c.args.old.now in
    let all = ap length c.in_ok-olds.ensures in
    all_found (AreOneMemory p c.args.new.now) c.loop-number.number c.loop-number.pairs.items
    (λ x h. let within = slice_get_within (owners_of p) x.old (Some h.of_old) h.old.0 in omega arith) c.loop-number.invariant
