use Rattle.std.proofs.Common.{◌≡◌, ◌∙◌, ◌+◌, ap, false, get_or, set, slice_index_or, subst, sym}
use Rattle.scan_cycle.specs.Standing.{Standing, with_values}
use Rattle.diff_matching.specs.declared.matching.Pair.{Pair}
use Rattle.diff_matching.proofs.Writing.{IsWrittenBelow, all_written, one_written}
use Rattle.diff_matching.proofs.carrying.carry_values.Goals as goal

pub loop-pair-preserved : goal.loop-pair-preserved
loop-pair-preserved c =
    let pairs = c.args.pairs.now in
    let i = c.loop-pair.pair-index in
    let d : Pair = record { old = 0; new = 0 } in
    let xs = c.args.from.now.held.values in
    let start = c.args.to.now in
    let to = c.loop-pair.to in
    let v = c.value_or_off.result in
    let changed : c.set_value.new.self.held.values ≡ set to.held.values (get_or pairs i d).new v = ap (λ (s : Standing). s.held.values) c.set_value.ensures in
    let value : v ≡ slice_index_or xs (get_or pairs i d).old false = c.value_or_off.ensures in
    let more = one_written false pairs xs start.held.values i d to.held.values v c.requires.once c.loop-pair-test.true (c.requires.there i d c.loop-pair-test.true) value c.loop-pair.invariant.written in
    record {
      written = subst (IsWrittenBelow false pairs (i + 1) xs start.held.values) (sym changed) more;
      others = c.set_value.ensures ∙ ap (λ (s : Standing). with_values s (set to.held.values (get_or pairs i d).new v)) c.loop-pair.invariant.others ∙ ap (with_values start) (sym changed);
    }

pub returns-clause-written : goal.returns-clause-written
returns-clause-written c =
    all_written false c.args.pairs.now c.args.from.now.held.values c.args.to.now.held.values c.loop-pair.pair-index c.loop-pair.to.held.values c.loop-pair-test.false
    c.loop-pair.invariant.written
