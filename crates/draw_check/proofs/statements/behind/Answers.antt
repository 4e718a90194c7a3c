use Rattle.std.proofs.Common.{◌+◌, List, refl, sym, subst, ap, ◌∙◌}
use Rattle.diagram_program.specs.declared.gates.Action.{Action}
use Rattle.st_statements.specs.declared.statement.StatementList.{StatementList}
use Rattle.st_statements.specs.Operands.{are_within}
use Rattle.draw_check.specs.Groups.{Do, Latch, Take}
use Rattle.draw_check.proofs.Onward.{onward}
use Rattle.draw_check.proofs.Rungs.{trigger_by, call_by, latch_list}
use Rattle.draw_check.proofs.Taking.{do_take}
use Rattle.draw_check.proofs.Within.{trigger_within, call_within, select_within}
use Rattle.draw_check.proofs.statements.behind.Goals as goal

pub is_latch-requires-clause-within : goal.is_latch-requires-clause-within
is_latch-requires-clause-within c =
    ap (are_within c.args.variables) c.deref-then-is_end.ensures
    ∙ (select_within c.args.variables c.in-Select.condition _ _ _ c.in-Select.accepted.value c.in-Select.otherwise.value c.in-Select.next.value
    (ap (are_within c.args.variables) (sym c.in-Select.is) ∙ c.requires.within)).1

pub returns-in-Assign-clause-does : goal.returns-in-Assign-clause-does
returns-in-Assign-clause-does c =
    onward c.take_coils.result _ _ c.take_coils.ensures.take
    (λ rest take. do_take c.args.network.program.now c.args.variables c.args.network.rung c.args.network.helpers.now c.args.list.now rest.now c.requires.rung (c.if-not-is_without_jump.ensures refl) c.requires.within
    (subst (λ (xs : List Action). Take c.args.network.program.now c.args.variables c.args.network.rung c.args.network.helpers.now xs c.args.list.now rest.now) c.actions-actions.ensures take))

pub returns-in-Trigger-clause-does : goal.returns-in-Trigger-clause-does
returns-in-Trigger-clause-does c =
    subst (λ (rest : StatementList). Do c.args.network.program.now c.args.variables c.args.network.helpers.now c.args.list.now rest c.args.network.rung (c.args.network.rung + 1)) (sym c.deref.ensures)
    (trigger_by c.args.network.program.now c.args.variables c.args.network.rung c.args.network.helpers.now c.in-Trigger.output c.in-Trigger.memory c.in-Trigger.clock _ c.in-Trigger.next.value c.args.list.now c.requires.rung
    c.in-Trigger.is c.requires.within (c.if-is_trigger.ensures refl))

pub returns-in-Trigger-clause-within : goal.returns-in-Trigger-clause-within
returns-in-Trigger-clause-within c =
    ap (are_within c.args.variables) c.deref.ensures
    ∙ (trigger_within c.args.variables c.in-Trigger.output c.in-Trigger.memory c.in-Trigger.clock _ c.in-Trigger.next.value (ap (are_within c.args.variables) (sym c.in-Trigger.is) ∙ c.requires.within)).2

pub returns-in-Call-clause-does : goal.returns-in-Call-clause-does
returns-in-Call-clause-does c =
    subst (λ (rest : StatementList). Do c.args.network.program.now c.args.variables c.args.network.helpers.now c.args.list.now rest c.args.network.rung (c.args.network.rung + 1)) (sym c.deref-in-Call.ensures)
    (call_by c.args.network.program.now c.args.variables c.args.network.rung c.args.network.helpers.now c.in-Call.instance c.in-Call.first c.in-Call.second _ c.in-Call.next.value c.args.list.now c.requires.rung
    c.in-Call.is c.requires.within (c.if-is_call.ensures refl))

pub returns-in-Call-clause-within : goal.returns-in-Call-clause-within
returns-in-Call-clause-within c =
    ap (are_within c.args.variables) c.deref-in-Call.ensures
    ∙ (call_within c.args.variables c.in-Call.instance c.in-Call.first c.in-Call.second _ c.in-Call.next.value (ap (are_within c.args.variables) (sym c.in-Call.is) ∙ c.requires.within)).2

pub returns-in-Select-clause-does : goal.returns-in-Select-clause-does
returns-in-Select-clause-does c =
    subst (λ (rest : StatementList). Do c.args.network.program.now c.args.variables c.args.network.helpers.now c.args.list.now rest c.args.network.rung (c.args.network.rung + 1)) (sym c.deref-in-Select.ensures)
    (latch_list c.args.network.program.now c.args.variables c.args.network.rung c.args.network.helpers.now c.in-Select.condition _ _ _ c.in-Select.accepted.value c.in-Select.otherwise.value c.in-Select.next.value
    c.args.list.now c.requires.rung (c.if-not-is_without_jump.ensures refl) c.in-Select.is (sym c.deref-in-Select-1.ensures ∙ c.if-is_end.ensures refl) c.requires.within
    (subst (λ (xs : List Action). Latch c.args.network.program.now c.args.variables c.args.network.rung c.args.network.helpers.now c.in-Select.condition xs c.in-Select.accepted.value) c.actions-actions.ensures
    (subst (λ (l : StatementList). Latch c.args.network.program.now c.args.variables c.args.network.rung c.args.network.helpers.now c.in-Select.condition c.actions-actions.result.now l) c.deref-then-is_end.ensures
    (c.if-is_latch.ensures refl))))

pub returns-in-Select-clause-within : goal.returns-in-Select-clause-within
returns-in-Select-clause-within c =
    ap (are_within c.args.variables) c.deref-in-Select.ensures
    ∙ (select_within c.args.variables c.in-Select.condition _ _ _ c.in-Select.accepted.value c.in-Select.otherwise.value c.in-Select.next.value (ap (are_within c.args.variables) (sym c.in-Select.is) ∙ c.requires.within)).3
