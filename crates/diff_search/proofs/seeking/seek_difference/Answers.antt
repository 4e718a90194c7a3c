use Rattle.std.proofs.Common.{List, false, subst, sym, true}
use Rattle.scan_cycle.specs.Runs.{OneScan}
use Rattle.reach_runs.specs.Asking.{SwitchesOn}
use Rattle.reach_search.specs.Searches.{IsVerdict}
use Rattle.reach_search.specs.declared.seeking.Verdict.{Verdict}
use Rattle.diff_runs.specs.Asking.{question}
use Rattle.diff_runs.specs.Assuming.{assumptions}
use Rattle.diff_search.proofs.Telling.{told}
use Rattle.diff_search.proofs.seeking.seek_difference.Goals as goal

pub returns : goal.returns
returns c =
    let s = c.args.sides in
    let prepared = c.args.prepared.now in
    let joint = prepared.joint in
    let on = c.in_ok-on.ensures in
    let off = c.in_ok-off.ensures in
    told s.matching.now s.of_old.now s.of_new.now s.old.now s.new.now s.both.now c.never_shown.ensures c.not_shown.ensures c.requires.beside c.args.symbols c.args.there
    c.requires.there (assumptions s.assumed) prepared.old_places.items prepared.new_places.items joint c.requires.prepared.joined c.none_shown.result
    (c.none_shown.ensures (question s.both.now c.args.there true joint) (question s.both.now c.args.there false joint) on.verdict on.off off.verdict off.off)

pub returns-in-Run : goal.returns-in-Run
returns-in-Run c =
    let asked = question c.args.sides.both.now c.args.there true c.args.prepared.now.joint in
    c.in_ok-two_runs.ensures c.args.symbols c.args.there c.requires.there
    (subst (λ (run : List OneScan). SwitchesOn asked run) (sym c.deref.ensures.value)
    (subst (λ (v : Verdict). IsVerdict asked v) c.in-Run.is c.in_ok-on.ensures.verdict))

pub returns-in-Run-verdict : goal.returns-in-Run-verdict
returns-in-Run-verdict c =
    let asked = question c.args.sides.both.now c.args.there false c.args.prepared.now.joint in
    c.in_ok-two_runs-2.ensures c.args.symbols c.args.there c.requires.there
    (subst (λ (run : List OneScan). SwitchesOn asked run) (sym c.deref-in-Run-verdict.ensures.value)
    (subst (λ (v : Verdict). IsVerdict asked v) c.in-Run-verdict.is c.in_ok-off.ensures.verdict))
