use Rattle.std.proofs.Common.{◌≡◌, false, List, subst, sym}
use Rattle.scan_cycle.specs.Programs.{diagram_of}
use Rattle.scan_signals.specs.declared.tri.Tri.{Tri}
use Rattle.reach_runs.specs.Asking.{question_of}
use Rattle.reach_search.specs.Searches.{AreAsked, IsReachedIn, is_end}
use Rattle.reach_search.specs.Visits.{LeadsOn}
use Rattle.reach_search.specs.declared.visiting.Visit.{Visit}
use Rattle.reach_search.specs.declared.visiting.Visit.TheVariants.{Closed}
use Rattle.reach_search.proofs.LevelLaws.{if_ok_then}
use Rattle.reach_search.proofs.Reaching.{allows_first, reached_first}
use Rattle.reach_search.proofs.levels.visit_first.Goals as goal

pub returns-clause-inputs : goal.returns-clause-inputs
returns-clause-inputs c =
    let q = question_of c.args.visiting.query in
    let inputs = c.args.search.now.inputs.items in
    let new = c.visit_scans.new.search.inputs.items in
    if_ok_then (λ (v : Visit). is_end v ≡ false → new ≡ inputs) (λ (v : Visit). is_end v ≡ false → AreAsked q new)
    (λ v same going. subst (λ (xs : List Tri). AreAsked q xs) (sym (same going)) c.requires.inputs)
    c.visit_scans.result c.visit_scans.ensures.inputs

pub returns-clause-reached : goal.returns-clause-reached
returns-clause-reached c =
    let q = question_of c.args.visiting.query in
    let d = diagram_of c.args.visiting.query.program.now in
    let inputs = c.args.search.now.inputs.items in
    let set = c.visit_scans.new.search.set in
    let k = c.forget.new.known in
    let first = allows_first q.timing d q.from c.know_untimed.new.known q.state.held c.know_untimed.ensures.any c.know_untimed.ensures.every in
    let allows = c.forget.ensures.allows q.timing q.from q.state.held first in
    if_ok_then (λ (v : Visit). v ≡ Closed → LeadsOn q set k 0 inputs) (λ (v : Visit). v ≡ Closed → IsReachedIn q set 1)
    (λ v leads closed. reached_first q set k inputs c.requires.inputs allows (leads closed))
    c.visit_scans.result c.visit_scans.ensures.closed
