use Rattle.std.proofs.Common.{◌≡◌, rules}
use Rattle.scan_cycle.specs.Programs.{diagram_of}
use Rattle.reach_runs.specs.Asking.{question_of}
use Rattle.reach_states.specs.Allowing.{AllowsFrom, AllowsState}
use Rattle.reach_search.specs.Visits.{Leads, LeadsOn}
use Rattle.reach_search.specs.declared.visiting.Visit.{Visit}
use Rattle.reach_search.specs.declared.visiting.Visit.TheVariants.{Closed}
use Rattle.reach_search.proofs.Leading.{if_ok_both, leads_later, leads_next}
use Rattle.reach_search.proofs.visiting.visit_scans.Goals as goal

pub returns-in-AnyMoments-clause-closed : goal.returns-in-AnyMoments-clause-closed
returns-in-AnyMoments-clause-closed c =
    let q = question_of c.args.visiting.query in
    let d = diagram_of q.program in
    let k = c.args.search.now.before in
    let inputs = c.args.search.now.inputs.items in
    let set = c.visit_times.new.search.set in
    if_ok_both
    (λ (v : Visit). v ≡ Closed → Leads q set (λ now. AllowsFrom 0 d now k) inputs)
    (λ (v : Visit). Unit {0})
    (λ (v : Visit). v ≡ Closed → LeadsOn q set k c.args.time inputs)
    (λ v leads _ closed. leads_later q set k c.args.time inputs c.in-AnyMoments.is (leads closed))
    c.visit_times.result c.visit_times.ensures.closed (search rules)

pub returns-in-Every-clause-closed : goal.returns-in-Every-clause-closed
returns-in-Every-clause-closed c =
    let q = question_of c.args.visiting.query in
    let d = diagram_of q.program in
    let k = c.args.search.now.before in
    let inputs = c.args.search.now.inputs.items in
    let set = c.visit_inputs.new.search.set in
    if_ok_both
    (λ (v : Visit). v ≡ Closed → Leads q set (λ now. AllowsState q.timing d now c.age.new.known) inputs)
    (λ (v : Visit). Unit {0})
    (λ (v : Visit). v ≡ Closed → LeadsOn q set k c.args.time inputs)
    (λ v leads _ closed. leads_next q set k c.age.new.known _ c.args.time inputs c.in-Every.is c.age.ensures.allows (leads closed))
    c.visit_inputs.result c.visit_inputs.ensures.closed (search rules)
