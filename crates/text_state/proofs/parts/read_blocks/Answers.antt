use Rattle.std.proofs.Common.{arith, ◌+◌, refl, length, length-set, ap, sym, subst, ◌∙◌}
use Rattle.scan_cycle.specs.Standing.{CanStore, Standing}
use Rattle.text_state.specs.Parts.{CanHold, TakesItem, block_item, block_records, tells}
use Rattle.text_state.specs.StateText.{block_record}
use Rattle.text_state.proofs.ItemByItem.{block_can, count_all, count_more, count_same, item_some, other_blocks, read_all, read_more, read_none, read_skip, read_stuck, told_set}
use Rattle.text_state.proofs.parts.read_blocks.Goals as goal

pub loop-number-init : goal.loop-number-init
loop-number-init c = (
  c.requires.plain,
  c.requires.blocks,
  refl,
  c.requires.told,
  omega arith,
  omega arith,
  λ rows left.
      read_none (block_records c.args.version) c.args.instances.now c.args.state.now.held.kept.blocks rows c.args.records.now left,
)

pub loop-number-preserved-then-not-has_record : goal.loop-number-preserved-then-not-has_record
loop-number-preserved-then-not-has_record c =
    let inv = c.loop-number.invariant in
    let x = c.index-instances-number.result in
    let lacks = sym c.has_record.ensures ∙ c.if-not-has_record.true in
    let blocks = c.loop-number.state.held.kept.blocks in (
      inv.0,
      inv.1,
      inv.2,
      inv.3,
      count_same (tells c.args.version) block_item c.args.instances.now blocks c.loop-number.number c.args.before c.loop-number.last x c.loop-number-test.true c.index-instances-number.is lacks inv.4,
      omega (arith, inv.5),
      λ rows left.
          read_skip (tells c.args.version) block_item c.args.instances.now blocks c.loop-number.number x rows c.loop-number.records c.loop-number-test.true c.index-instances-number.is lacks (inv.6 rows left),
    )

pub returns-in_default-stored-clause-part : goal.returns-in_default-stored-clause-part
returns-in_default-stored-clause-part c = λ rows left.
    let inv = c.loop-number.invariant in
    let h = inv.6 rows left in
    let x = c.index-instances-number.result in
    let moment = c.moment.ensures ∙ ap (λ (s : Standing). s.moment) inv.2 in
    let t = subst (λ m. TakesItem (block_record x.name) (CanStore x.kind m) h.rest c.next_block.new.records c.in-Ok.stored) moment (c.in-Ok.ensures.takes h.rest h.left) in
    read_stuck (tells c.args.version) block_item (CanHold c.args.state.now.moment) c.args.instances.now c.loop-number.state.held.kept.blocks c.loop-number.number c.args.before _ x c.in-Ok.stored rows _ c.next_block.new.records
    (sym c.has_record.ensures ∙ c.if-not-has_record.false) c.loop-number-test.true c.index-instances-number.is h c.in_default-stored.is t (ap (λ n. n + 1) inv.4)

pub set_block-requires : goal.set_block-requires
set_block-requires c =
    let inv = c.loop-number.invariant in
    let kinds = ap (λ (s : Standing). s.kinds) inv.2 ∙ c.requires.kinds in
    let can = item_some (CanStore c.index-instances-number.result.kind c.moment.result) c.in-Ok.stored c.in-Some.stored c.in-Some.is c.in-Ok.ensures.can in
    record {
      range = omega (arith, inv.1);
      stored = block_can _ c.args.instances.now c.loop-number.number c.index-instances-number.result _ _ _ kinds c.loop-number-test.true c.index-instances-number.is c.moment.ensures can;
    }

pub loop-number-preserved : goal.loop-number-preserved
loop-number-preserved c =
    let inv = c.loop-number.invariant in
    let number = c.loop-number.number in
    let x = c.index-instances-number.result in
    let has = sym c.has_record.ensures ∙ c.if-not-has_record.false in
    let instances = c.args.instances.now in
    let blocks = c.loop-number.state.held.kept.blocks in
    let stored = c.in-Some.stored in
    let set_blocks = ap (λ s. s.held.kept.blocks) c.set_block.ensures in (
      c.in-Ok.ensures.plain,
      ap length set_blocks ∙ length-set blocks number stored ∙ inv.1,
      other_blocks c.args.state.now c.loop-number.state _ _ inv.2 c.set_block.ensures,
      told_set c.args.version instances blocks _ number x stored inv.3 has c.index-instances-number.is set_blocks,
      count_more (tells c.args.version) block_item instances blocks _ number c.args.before c.loop-number.last x stored has c.loop-number-test.true (omega (arith, inv.1)) c.index-instances-number.is set_blocks inv.4,
      omega (arith, inv.5),
      λ rows left.
          let h = inv.6 rows left in
          read_more (tells c.args.version) block_item (CanStore x.kind c.moment.result) instances blocks _ number x stored c.in-Ok.stored rows _ c.next_block.new.records
          has c.loop-number-test.true (omega (arith, inv.1)) c.index-instances-number.is h c.in-Some.is (c.in-Ok.ensures.takes h.rest h.left) set_blocks,
    )

pub returns-clause-part : goal.returns-clause-part
returns-clause-part c = λ rows left.
    read_all (block_records c.args.version) c.args.instances.now c.loop-number.state.held.kept.blocks c.loop-number.number rows c.loop-number.records (omega arith) (c.loop-number.invariant.6 rows left)

pub returns-clause-last : goal.returns-clause-last
returns-clause-last c =
    count_all (block_records c.args.version) c.args.instances.now c.loop-number.state.held.kept.blocks c.loop-number.number c.args.before c.loop-number.last (omega arith) c.loop-number.invariant.4
