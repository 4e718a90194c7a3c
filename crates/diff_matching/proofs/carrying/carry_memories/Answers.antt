use Rattle.std.proofs.Common.{◌≡◌, ◌∙◌, ◌+◌, ap, false, get_or, set, slice_index_or, subst, sym}
use Rattle.scan_cycle.specs.Rung.{Held}
use Rattle.scan_cycle.specs.Standing.{Standing, with_memories}
use Rattle.diff_matching.specs.declared.matching.Pair.{Pair}
use Rattle.diff_matching.proofs.Writing.{IsWrittenBelow, all_written, one_written}
use Rattle.diff_matching.proofs.carrying.carry_memories.Goals as goal

pub loop-pair-preserved : goal.loop-pair-preserved
loop-pair-preserved c =
    let pairs = c.args.pairs.now in
    let i = c.loop-pair.pair-index in
    let d : Pair = record { old = 0; new = 0 } in
    let xs = c.args.from.now.held.kept.memories in
    let start = c.args.to.now in
    let to = c.loop-pair.to in
    let v = c.memory_at.result in
    let changed : c.set_memory.new.self.held.kept.memories ≡ set to.held.kept.memories (get_or pairs i d).new v = ap (λ (s : Standing). s.held.kept.memories) c.set_memory.ensures in
    let value : v ≡ slice_index_or xs (get_or pairs i d).old false = c.memory_at.ensures ∙ ap (λ (h : Held). slice_index_or h.kept.memories (get_or pairs i d).old false) c.storage.ensures in
    let more = one_written false pairs xs start.held.kept.memories i d to.held.kept.memories v c.requires.once c.loop-pair-test.true (c.requires.there i d c.loop-pair-test.true) value c.loop-pair.invariant.written in
    record {
      written = subst (IsWrittenBelow false pairs (i + 1) xs start.held.kept.memories) (sym changed) more;
      others = c.set_memory.ensures ∙ ap (λ (s : Standing). with_memories s (set to.held.kept.memories (get_or pairs i d).new v)) c.loop-pair.invariant.others ∙ ap (with_memories start) (sym changed);
    }

pub returns-clause-written : goal.returns-clause-written
returns-clause-written c =
    all_written false c.args.pairs.now c.args.from.now.held.kept.memories c.args.to.now.held.kept.memories c.loop-pair.pair-index c.loop-pair.to.held.kept.memories c.loop-pair-test.false
    c.loop-pair.invariant.written
