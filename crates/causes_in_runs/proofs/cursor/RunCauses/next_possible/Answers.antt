use Rattle.std.proofs.Common.{◌^◌, length, subst}
use Rattle.diagram_program.specs.Program.{Drawing}
use Rattle.causes_any_state.specs.Possible.{Gives}
use Rattle.causes_any_state.specs.declared.possible.PossibleCause.{PossibleCause}
use Rattle.causes_in_runs.specs.Cursors.{GivesPossible}
use Rattle.causes_in_runs.specs.Leading.{RunsLead}
use Rattle.causes_in_runs.specs.Rows.{AreUnreached, RunCursor}
use Rattle.causes_in_runs.proofs.Cursors.{gives_possible, none_reached, some_then, view_of}
use Rattle.causes_in_runs.proofs.cursor.RunCauses.next_possible.Goals as goal

pub returns-clause-row : goal.returns-clause-row
returns-clause-row c =
    let i = c.self.inside in
    let law = subst (λ (p : Drawing). RunsLead p) c.program.ensures c.unreached.ensures in
    some_then (λ (row : PossibleCause). Gives i.causes row c.next.new.self) (λ (row : PossibleCause). GivesPossible c.args.self.now row (view_of c.next.new.self i.state.now)) c.next.result
    (λ row gives. subst (λ (x : RunCursor). GivesPossible x row (view_of c.next.new.self i.state.now)) c.self.view_is
    (gives_possible i c.self.invariant c.checked-2.ensures law c.checked.ensures.listable c.checked.ensures.states row c.next.new.self gives))
    c.next.ensures.row

pub returns-clause-end : goal.returns-clause-end
returns-clause-end c = λ none.
    let i = c.self.inside in
    let law = subst (λ (p : Drawing). RunsLead p) c.program.ensures c.unreached.ensures in
    subst (λ (x : RunCursor). AreUnreached x.assumed x.program x.state x.coil x.listed x.from (2 ^ length x.listed)) c.self.view_is
    (none_reached i c.self.invariant c.checked-2.ensures law c.checked.ensures.listable c.checked.ensures.states i.causes.from (2 ^ length i.causes.listed)
    (c.next.ensures.end none))
