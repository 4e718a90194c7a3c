use Rattle.std.proofs.Common.{arith, ◌≤◌, ℕ, ◌+◌, List, false, refl, subst}
use Rattle.draw_power.specs.declared.helpers.Helper.{Helper}
use Rattle.draw_check.specs.Groups.{AreArms, Branches, Do, IsLeave, Leaves}
use Rattle.draw_check.specs.Steps.{Draws}
use Rattle.draw_check.proofs.Onward.{onward_ok, there}
use Rattle.draw_check.proofs.Rungs.{arms_by, leave_by, return_by, select_by}
use Rattle.draw_check.proofs.Taking.{draws_by}
use Rattle.draw_check.proofs.Within.{selection_within}
use Rattle.draw_check.proofs.drawing.+drawing.Goals as goal

pub end_of_arms-returns-then-behind-end-clause-arms : goal.end_of_arms-returns-then-behind-end-clause-arms
end_of_arms-returns-then-behind-end-clause-arms t c =
    let p = c.args.plan.program.now in
    let n = c.args.plan.variables in
    arms_by p n c.args.accepted.now c.args.otherwise.now c.args.first c.args.target c.in-Some-2.end
    (subst (λ (k : ℕ). Draws p n c.args.accepted.now c.args.first k) c.if-behind-end.true
    (there c.in_ok-behind.field-0 c.in-Some.behind (λ k. Draws p n c.args.accepted.now c.args.first k) c.in-Some.is c.in_ok-behind.ensures.draws))
    (there c.in_ok-end.field-0 c.in-Some-2.end (λ k. Draws p n c.args.otherwise.now c.args.target k) c.in-Some-2.is c.in_ok-end.ensures.draws)

pub rungs_from-returns-in-Some-clause-draws : goal.rungs_from-returns-in-Some-clause-draws
rungs_from-returns-in-Some-clause-draws t c =
    onward_ok c.rungs_of.result _ _ c.rungs_of.ensures.draws
    (λ k rest. draws_by c.args.plan.program.now c.args.plan.variables c.args.helpers.now.items c.args.list.now c.in-Some.rest.now c.args.rung c.args.main (c.args.main + 1) k c.requires.prepared
    (subst (λ (hs : List Helper). Do c.args.plan.program.now c.args.plan.variables hs c.args.list.now c.in-Some.rest.now c.args.main (c.args.main + 1)) c.deref.ensures.value c.in-Some.ensures.does) rest)

pub rungs_of-returns-in-Some-clause-draws : goal.rungs_of-returns-in-Some-clause-draws
rungs_of-returns-in-Some-clause-draws t c =
    onward_ok c.rungs_of.result _ _ c.rungs_of.ensures.draws
    (λ k rest. return_by c.args.plan.program.now c.args.plan.variables c.args.rung k c.in-Some.next.now c.args.list.now c.in-Some.ensures
    (subst (λ (k : ℕ). Leaves c.args.plan.program.now c.args.rung k) c.rungs-in-Some.ensures.value (c.if-not-is_left.ensures refl)))

pub rungs_of_selection-returns-then-is_leave-clause-draws : goal.rungs_of_selection-returns-then-is_leave-clause-draws
rungs_of_selection-returns-then-is_leave-clause-draws t c =
    onward_ok c.rungs_of.result _ _ c.rungs_of.ensures.draws
    (λ k rest. leave_by c.args.plan.program.now c.args.plan.variables c.args.helpers.now.items c.in-Some.selection.condition.now c.in-Some.selection.accepted.now c.in-Some.selection.otherwise.now c.in-Some.selection.next.now
    c.args.list.now c.args.rung c.args.main k c.in-Some.ensures c.requires.within
    (subst (λ (hs : List Helper). IsLeave c.args.plan.program.now c.args.main hs c.in-Some.selection.condition.now c.in-Some.selection.accepted.now c.in-Some.selection.otherwise.now) c.deref.ensures.value (c.if-is_leave.ensures refl))
    c.requires.prepared rest)

pub rungs_of_selection-returns-clause-draws : goal.rungs_of_selection-returns-clause-draws
rungs_of_selection-returns-clause-draws t c =
    let p = c.args.plan.program.now in
    let n = c.args.plan.variables in
    let s = c.in-Some.selection in
    onward_ok c.rungs_of-2.result _ _ c.rungs_of-2.ensures.draws
    (λ k rest. select_by p n c.args.helpers.now.items s.condition.now s.accepted.now s.otherwise.now s.next.now c.args.list.now c.args.rung c.args.main c.in_Some-target.target c.in-Some-2.end k
    c.in-Some.ensures c.requires.within c.requires.prepared
    (subst (λ (hs : List Helper). Branches p hs c.args.main c.in_Some-target.target false s.condition.now) c.deref.ensures.value c.in_Some-target.ensures)
    (there c.in_ok-end.field-0 c.in-Some-2.end (λ l. AreArms p n s.accepted.now s.otherwise.now (c.args.main + 1) c.in_Some-target.target l) c.in-Some-2.is c.in_ok-end.ensures.arms) rest)

pub rungs_of_selection-rungs_of-requires : goal.rungs_of_selection-rungs_of-requires
rungs_of_selection-rungs_of-requires t c =
    let s = c.in-Some.selection in
    let parts = selection_within c.args.plan.variables s.condition.now s.accepted.now s.otherwise.now s.next.now c.args.list.now c.in-Some.ensures c.requires.within in
    (omega (arith, c.decreases, c.requires.main.0, c.requires.main.1), (omega (arith, c.requires.main.1), parts.3))

pub rungs_of_selection-end_of_arms-requires : goal.rungs_of_selection-end_of_arms-requires
rungs_of_selection-end_of_arms-requires t c =
    let s = c.in-Some.selection in
    let parts = selection_within c.args.plan.variables s.condition.now s.accepted.now s.otherwise.now s.next.now c.args.list.now c.in-Some.ensures c.requires.within in
    (omega (arith, c.decreases, c.requires.main.0, c.requires.main.1), (omega (arith, c.requires.main.1), (parts.1, parts.2)))

pub rungs_of_selection-rungs_of-requires-2 : goal.rungs_of_selection-rungs_of-requires-2
rungs_of_selection-rungs_of-requires-2 t c =
    let s = c.in-Some.selection in
    let parts = selection_within c.args.plan.variables s.condition.now s.accepted.now s.otherwise.now s.next.now c.args.list.now c.in-Some.ensures c.requires.within in
    let range = there c.in_ok-end.field-0 c.in-Some-2.end (λ k. (c.args.main + 1 ≤ k) × (k ≤ c.args.plan.program.now.rungs)) c.in-Some-2.is c.in_ok-end.ensures.rungs in
    (omega (arith, c.decreases, c.requires.main.0, c.requires.main.1, range.0, range.1), (range.1, parts.3))
