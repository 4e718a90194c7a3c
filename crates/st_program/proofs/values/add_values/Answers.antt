use Rattle.st_program.proofs.Valued.{value_next, word_passed, all_passed, one_value_more}
use Rattle.st_program.proofs.values.add_values.Goals as goal

pub loop-after-preserved-in_ok-add_value : goal.loop-after-preserved-in_ok-add_value
loop-after-preserved-in_ok-add_value c = record {
  valued =
      value_next _ _ _ _ _ _ _ _ c.in-Some-new_value.declared _ _ c.loop-after.invariant.valued c.in-Some.ensures.first c.in-Some-new_value.ensures
      c.in_ok-add_value.ensures.table;
  values = one_value_more _ _ _ _ c.in-Some-new_value.declared c.in-Some-new_value.value c.loop-after.invariant.values c.in_ok-add_value.ensures.table c.in_ok-add_value.ensures.values;
}

pub loop-after-preserved : goal.loop-after-preserved
loop-after-preserved c = record {
  valued = word_passed _ _ _ _ _ _ _ c.loop-after.invariant.valued c.in-Some.ensures.first;
  values = c.loop-after.invariant.values;
}

pub returns-clause-added : goal.returns-clause-added
returns-clause-added c = all_passed _ _ _ _ _ c.loop-after.invariant.valued c.in_default.ensures.none
