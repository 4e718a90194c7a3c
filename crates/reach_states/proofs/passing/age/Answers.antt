use Rattle.std.proofs.Common.{ap, arith, length}
use Rattle.scan_cycle.specs.Programs.{diagram_of}
use Rattle.reach_states.proofs.Ageing.{IsAged, aged_allows}
use Rattle.reach_states.proofs.passing.age.Goals as goal

pub returns-clause-allows : goal.returns-clause-allows
returns-clause-allows c =
    let d = diagram_of c.args.program.now in
    let is = c.loop-inst.invariant in
    let older : IsAged d c.args.every c.args.known.now c.loop-inst.known = record {
      values = ap (λ k. k.values) is.known;
      memories = ap (λ k. k.memories) is.known;
      many = is.many;
      each = λ i lt. is.done i (omega (arith, ap length c.instances-inst-end.ensures.value, ap (λ decls. length decls.instances) c.decls.ensures));
    } in
    aged_allows d c.args.every c.args.known.now c.loop-inst.known older
