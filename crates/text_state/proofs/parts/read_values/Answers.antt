use Rattle.std.proofs.Common.{arith, refl, length, length-set, ap, ◌∙◌}
use Rattle.std.specs.Prelude.{⊤}
use Rattle.text_state.specs.StateText.{var_record}
use Rattle.text_state.specs.Parts.{every, var_records}
use Rattle.text_state.proofs.ItemByItem.{each_count, other_values, read_all, read_more, read_none, read_stuck}
use Rattle.text_state.proofs.parts.read_values.Goals as goal

pub loop-number-init : goal.loop-number-init
loop-number-init c = (c.requires.plain, c.requires.values, refl, λ rows left. read_none var_records c.args.vars.now c.args.state.now.held.values rows c.args.records.now left)

pub returns-in_default-value-clause-part : goal.returns-in_default-value-clause-part
returns-in_default-value-clause-part c = λ rows left.
    let inv = c.loop-number.invariant in
    let h = inv.3 rows left in
    read_stuck every var_record (λ _ _. ⊤) c.args.vars.now c.loop-number.state.held.values c.loop-number.number c.args.before _ c.index-vars-number.result c.in-Ok.value rows _ c.next_value.new.records
    refl c.loop-number-test.true c.index-vars-number.is h c.in_default-value.is (c.in-Ok.ensures.takes h.rest h.left) (omega (arith, each_count var_record c.args.vars.now c.loop-number.state.held.values c.loop-number.number (omega arith) (omega (arith, inv.1))))

pub loop-number-preserved : goal.loop-number-preserved
loop-number-preserved c =
    let inv = c.loop-number.invariant in
    let number = c.loop-number.number in
    let set_values = ap (λ s. s.held.values) c.set_value.ensures in
    let same = length-set c.loop-number.state.held.values number c.in-Some.value in (
      c.in-Ok.ensures.plain,
      ap length set_values ∙ same ∙ inv.1,
      other_values c.args.state.now c.loop-number.state _ _ inv.2 c.set_value.ensures,
      λ rows left.
          let h = inv.3 rows left in
          read_more every var_record (λ _. ⊤) c.args.vars.now c.loop-number.state.held.values _ number c.index-vars-number.result c.in-Some.value c.in-Ok.value rows _ c.next_value.new.records
          refl c.loop-number-test.true (omega (arith, inv.1)) c.index-vars-number.is h c.in-Some.is (c.in-Ok.ensures.takes h.rest h.left) set_values,
    )

pub returns-clause-part : goal.returns-clause-part
returns-clause-part c = λ rows left.
    read_all var_records c.args.vars.now c.loop-number.state.held.values c.loop-number.number rows c.loop-number.records (omega arith) (c.loop-number.invariant.3 rows left)
