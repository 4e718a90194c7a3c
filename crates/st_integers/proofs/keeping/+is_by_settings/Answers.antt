use Rattle.std.proofs.Common.{◌∙◌, arith, ap, sym, refl, subst, true≢false}
use Rattle.st_integers.specs.Settings.{BySettings, at_end, at_setting, at_assign, at_trigger, at_call, at_select, at_return}
use Rattle.st_integers.proofs.Begun.{behind_other, found_set, part, sets_once}
use Rattle.st_integers.proofs.Places.{free, taken}
use Rattle.st_integers.proofs.Shorter.{count, shorter}
use Rattle.st_integers.proofs.keeping.+is_by_settings.Goals as goal
use Rattle.st_integers.proofs.keeping.+is_by_settings.Goals.{then-is_by_settings, else-is_by_settings}

pub is_by_settings-requires : goal.is_by_settings-requires
is_by_settings-requires t c = (omega (arith, c.decreases, shorter c.args.values.now c.in-Some.of.integer c.in-Some-behind.rest.now c.args.list.now c.in-Some-behind.ensures.some), tt)

pub is_by_settings-requires-in-None : goal.is_by_settings-requires-in-None
unfolding count
is_by_settings-requires-in-None t c = (omega (arith, c.decreases, ap count c.in-Assign.is, ap count c.deref.ensures), tt)

pub is_by_settings-requires-then-is_none : goal.is_by_settings-requires-then-is_none
unfolding count
is_by_settings-requires-then-is_none t c = (omega (arith, c.decreases, ap count c.in-Trigger.is, ap count c.deref-then-is_none.ensures), tt)

pub is_by_settings-requires-in-Call : goal.is_by_settings-requires-in-Call
unfolding count
is_by_settings-requires-in-Call t c = (omega (arith, c.decreases, ap count c.in-Call.is, ap count c.deref-in-Call.ensures), tt)

pub is_by_settings-requires-in-Select : goal.is_by_settings-requires-in-Select
unfolding count
is_by_settings-requires-in-Select t c = (omega (arith, c.decreases, ap count c.in-Select.is, ap count c.deref-in-Select.ensures), tt)

pub is_by_settings-requires-then-is_by_settings : goal.is_by_settings-requires-then-is_by_settings
unfolding count
is_by_settings-requires-then-is_by_settings t c = (omega (arith, c.decreases, ap count c.in-Select.is, ap count c.deref-then-is_by_settings.ensures), tt)

pub is_by_settings-requires-then-is_by_settings-2 : goal.is_by_settings-requires-then-is_by_settings-2
unfolding count
is_by_settings-requires-then-is_by_settings-2 t c = (omega (arith, c.decreases, ap count c.in-Select.is, ap count c.deref-then-is_by_settings-2.ensures), tt)

pub returns-in-End : goal.returns-in-End
returns-in-End t c = (λ ok. subst (BySettings c.args.values.now) (sym c.in-End.is) at_end, λ by. refl)

pub returns-in-Some-behind : goal.returns-in-Some-behind
returns-in-Some-behind t c = (
  λ ok. at_setting c.in-Some.of.integer c.in-Some-behind.rest.now c.args.list.now c.in-Some-behind.ensures.some (c.is_by_settings.ensures.0 ok),
  λ by.
      let set = found_set c.args.values.now c.in-Assign.variable c.in-Assign.value _ c.in-Assign.next.value c.in-Some.of c.args.list.now (sym c.value_of.ensures ∙ c.in-Some.is) c.in-Assign.is by in
      let same = sets_once c.args.values.now c.in-Some.of.integer set.others c.in-Some-behind.rest.now c.args.list.now set.sets c.in-Some-behind.ensures.some in
      c.is_by_settings.ensures.1 (subst (BySettings c.args.values.now) same set.more),
)

pub returns-in-None-behind : goal.returns-in-None-behind
returns-in-None-behind t c = (
  λ ok. absurd (true≢false (sym ok)),
  λ by.
      let set = found_set c.args.values.now c.in-Assign.variable c.in-Assign.value _ c.in-Assign.next.value c.in-Some.of c.args.list.now (sym c.value_of.ensures ∙ c.in-Some.is) c.in-Assign.is by in
      absurd (c.in-None-behind.ensures.none set.others set.sets),
)

pub returns-in-None : goal.returns-in-None
returns-in-None t c = (
  λ ok.
      subst (BySettings c.args.values.now) (sym c.in-Assign.is)
      (at_assign c.in-Assign.variable c.in-Assign.value _ c.in-Assign.next.value (sym c.value_of.ensures ∙ c.in-None.is)
      (subst (BySettings c.args.values.now) c.deref.ensures (c.is_by_settings-in-None.ensures.0 ok))),
  λ by.
      c.is_by_settings-in-None.ensures.1
      (subst (BySettings c.args.values.now) (sym c.deref.ensures)
      (behind_other c.args.values.now c.in-Assign.variable c.in-Assign.value _ c.in-Assign.next.value (sym c.value_of.ensures ∙ c.in-None.is)
      (subst (BySettings c.args.values.now) c.in-Assign.is by))),
)

pub returns-then-is_none : goal.returns-then-is_none
returns-then-is_none t c = (
  λ ok.
      subst (BySettings c.args.values.now) (sym c.in-Trigger.is)
      (at_trigger c.in-Trigger.output c.in-Trigger.memory c.in-Trigger.clock _ c.in-Trigger.next.value (sym c.value_of-in-Trigger.ensures ∙ free _ c.if-is_none.ensures)
      (subst (BySettings c.args.values.now) c.deref-then-is_none.ensures (c.is_by_settings-then-is_none.ensures.0 ok))),
  λ by.
      let found = part c.args.values.now _ (subst (BySettings c.args.values.now) c.in-Trigger.is by) in
      c.is_by_settings-then-is_none.ensures.1 (subst (BySettings c.args.values.now) (sym c.deref-then-is_none.ensures) found.1),
)

pub returns-else-is_none : goal.returns-else-is_none
returns-else-is_none t c = (
  λ ok. absurd (true≢false (sym ok ∙ c.if-is_none.false)),
  λ by.
      let found = part c.args.values.now _ (subst (BySettings c.args.values.now) c.in-Trigger.is by) in
      absurd (taken _ c.if-is_none.ensures (c.value_of-in-Trigger.ensures ∙ found.0)),
)

pub returns-in-Call : goal.returns-in-Call
returns-in-Call t c = (
  λ ok.
      subst (BySettings c.args.values.now) (sym c.in-Call.is)
      (at_call c.in-Call.instance c.in-Call.first c.in-Call.second _ c.in-Call.next.value
      (subst (BySettings c.args.values.now) c.deref-in-Call.ensures (c.is_by_settings-in-Call.ensures.0 ok))),
  λ by.
      c.is_by_settings-in-Call.ensures.1
      (subst (BySettings c.args.values.now) (sym c.deref-in-Call.ensures) (part c.args.values.now _ (subst (BySettings c.args.values.now) c.in-Call.is by))),
)

pub returns-then-is_by_settings-2 : goal.returns-then-is_by_settings-2
returns-then-is_by_settings-2 t c = (
  λ ok. elim c.if-is_by_settings.branch [
    | then-is_by_settings w ↦
        subst (BySettings c.args.values.now) (sym c.in-Select.is)
        (at_select c.in-Select.condition _ _ _ c.in-Select.accepted.value c.in-Select.otherwise.value c.in-Select.next.value
        (subst (BySettings c.args.values.now) c.deref-in-Select.ensures (c.is_by_settings-in-Select.ensures.0 w.if-is_by_settings.true))
        (subst (BySettings c.args.values.now) w.deref-then-is_by_settings.ensures
        (w.is_by_settings-then-is_by_settings.ensures.0 (sym w.value-is ∙ c.if-is_by_settings-2.true)))
        (subst (BySettings c.args.values.now) c.deref-then-is_by_settings-2.ensures (c.is_by_settings-then-is_by_settings-2.ensures.0 ok)))
    | else-is_by_settings w ↦ absurd (true≢false (sym c.if-is_by_settings-2.true ∙ w.value-is ∙ w.if-is_by_settings.false))
  ],
  λ by.
      let found = part c.args.values.now _ (subst (BySettings c.args.values.now) c.in-Select.is by) in
      c.is_by_settings-then-is_by_settings-2.ensures.1 (subst (BySettings c.args.values.now) (sym c.deref-then-is_by_settings-2.ensures) found.2),
)

pub returns-else-is_by_settings-2 : goal.returns-else-is_by_settings-2
returns-else-is_by_settings-2 t c = (
  λ ok. absurd (true≢false (sym ok ∙ c.if-is_by_settings-2.false)),
  λ by.
      let found = part c.args.values.now _ (subst (BySettings c.args.values.now) c.in-Select.is by) in
      elim c.if-is_by_settings.branch [
        | then-is_by_settings w ↦
            w.value-is ∙ w.is_by_settings-then-is_by_settings.ensures.1 (subst (BySettings c.args.values.now) (sym w.deref-then-is_by_settings.ensures) found.1)
        | else-is_by_settings w ↦
            w.value-is ∙ c.is_by_settings-in-Select.ensures.1 (subst (BySettings c.args.values.now) (sym c.deref-in-Select.ensures) found.0)
      ],
)

pub returns-in-Return : goal.returns-in-Return
returns-in-Return t c = (λ ok. subst (BySettings c.args.values.now) (sym c.in-Return.is) (at_return _ c.in-Return.next.value), λ by. refl)
