use Rattle.std.proofs.Common.{◌≡◌, ◌<◌, ℕ, arith, false, List, subst, sym}
use Rattle.scan_signals.specs.declared.tri.Tri.{Tri}
use Rattle.reach_runs.specs.Asking.{question_of}
use Rattle.reach_search.specs.Searches.{AreAsked, is_end}
use Rattle.reach_search.specs.Sets.{count_of}
use Rattle.reach_search.specs.Visits.{Grows, IsVisited, LeadsOn}
use Rattle.reach_search.specs.declared.visiting.Visit.{Visit}
use Rattle.reach_search.specs.declared.visiting.Visit.TheVariants.{Closed}
use Rattle.reach_search.proofs.Growing.{visited_here}
use Rattle.reach_search.proofs.Leading.{if_ok_both}
use Rattle.reach_search.proofs.LevelLaws.{if_ok_then}
use Rattle.reach_search.proofs.levels.visit_state.Goals as goal

pub returns-clause-inputs : goal.returns-clause-inputs
returns-clause-inputs c =
    let q = question_of c.args.visiting.query in
    let inputs = c.args.search.now.inputs.items in
    let new = c.visit_scans.new.search.inputs.items in
    if_ok_then (λ (v : Visit). is_end v ≡ false → new ≡ inputs) (λ (v : Visit). is_end v ≡ false → AreAsked q new)
    (λ v same going. subst (λ (xs : List Tri). AreAsked q xs) (sym (same going)) c.requires.inputs)
    c.visit_scans.result c.visit_scans.ensures.inputs

pub returns-clause-visited : goal.returns-clause-visited
returns-clause-visited c =
    let q = question_of c.args.visiting.query in
    let inputs = c.args.search.now.inputs.items in
    let set = c.args.search.now.set in
    let new = c.visit_scans.new.search.set in
    let k = c.read.new.known in
    let number = c.args.number in
    let less : number < count_of set = omega (arith, c.count.ensures, c.if-count-number.false) in
    if_ok_both (λ (v : Visit). v ≡ Closed → LeadsOn q new k c.time_of.result inputs) (λ (v : Visit). Grows set new) (λ (v : Visit). v ≡ Closed → IsVisited q new number)
    (λ v leads grows closed.
    visited_here q set new number k inputs c.requires.inputs c.read.ensures.known grows less
    (subst (λ (time : ℕ). LeadsOn q new k time inputs) c.time_of.ensures (leads closed)))
    c.visit_scans.result c.visit_scans.ensures.closed c.visit_scans.ensures.grows
