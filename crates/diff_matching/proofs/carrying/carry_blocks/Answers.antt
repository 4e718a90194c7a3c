use Rattle.std.proofs.Common.{◌≡◌, ◌∙◌, ◌+◌, ap, get_or, set, slice_index_or, subst, sym}
use Rattle.diagram_declarations.specs.declared.kind.BlockKind.TheVariants.{Ton}
use Rattle.scan_signals.specs.Blocks.{new_block}
use Rattle.scan_cycle.specs.Standing.{Standing, with_blocks}
use Rattle.diff_matching.specs.declared.matching.Pair.{Pair}
use Rattle.diff_matching.proofs.Carries.{can_store}
use Rattle.diff_matching.proofs.Writing.{IsWrittenBelow, all_written, one_written}
use Rattle.diff_matching.proofs.carrying.carry_blocks.Goals as goal

pub loop-pair-preserved : goal.loop-pair-preserved
loop-pair-preserved c =
    let pairs = c.args.pairs.now in
    let i = c.loop-pair.pair-index in
    let d : Pair = record { old = 0; new = 0 } in
    let xs = c.args.from.now.held.kept.blocks in
    let start = c.args.to.now in
    let to = c.loop-pair.to in
    let v = c.stored.result in
    let changed : c.set_block.new.self.held.kept.blocks ≡ set to.held.kept.blocks (get_or pairs i d).new v = ap (λ (s : Standing). s.held.kept.blocks) c.set_block.ensures in
    let value : v ≡ slice_index_or xs (get_or pairs i d).old (new_block Ton) = c.stored.ensures in
    let more = one_written (new_block Ton) pairs xs start.held.kept.blocks i d to.held.kept.blocks v c.requires.once c.loop-pair-test.true (c.requires.instances i d c.loop-pair-test.true).1 value c.loop-pair.invariant.written in
    record {
      written = subst (IsWrittenBelow (new_block Ton) pairs (i + 1) xs start.held.kept.blocks) (sym changed) more;
      others = c.set_block.ensures ∙ ap (λ (s : Standing). with_blocks s (set to.held.kept.blocks (get_or pairs i d).new v)) c.loop-pair.invariant.others ∙ ap (with_blocks start) (sym changed);
    }

pub set_block-requires-clause-stored : goal.set_block-requires-clause-stored
set_block-requires-clause-stored c =
    let pair : Pair = get_or c.args.pairs.now c.loop-pair.pair-index (record { old = 0; new = 0 }) in
    let here = c.requires.instances c.loop-pair.pair-index (record { old = 0; new = 0 }) c.loop-pair-test.true in
    can_store c.args.from.now c.args.to.now c.loop-pair.to pair.old pair.new c.stored.result c.checked.ensures here.0 here.2 c.loop-pair.invariant.others c.requires.moment
    c.stored.ensures

pub returns-clause-written : goal.returns-clause-written
returns-clause-written c =
    all_written (new_block Ton) c.args.pairs.now c.args.from.now.held.kept.blocks c.args.to.now.held.kept.blocks c.loop-pair.pair-index c.loop-pair.to.held.kept.blocks c.loop-pair-test.false
    c.loop-pair.invariant.written
