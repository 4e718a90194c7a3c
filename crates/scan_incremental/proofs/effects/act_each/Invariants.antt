use Rattle.std.proofs.Common.{◌≡◌, drop, None}
use Rattle.diagram_program.specs.Gates.{actions_of}
use Rattle.scan_cycle.specs.Programs.{diagram_of}
use Rattle.scan_cycle.specs.Gating.{changes_of}
use Rattle.scan_incremental.specs.Resting.{known_next, AllRest}
use Rattle.scan_incremental.proofs.effects.act_each.Given as goal

abbrev pub invariant-loop-action : goal.invariant-loop-action
invariant-loop-action l =
    let s = l.scene in
    let d = diagram_of s.program.now in
    let actions = actions_of s.program.now s.rung in
    record {
      stored : changes_of d s.now l.start l.links (drop l.action-index actions) l.storage ≡ changes_of d s.now l.start l.links actions l.fn.storage;
      awake : known_next l.next s.rung ≡ None;
      rest : AllRest d s.now l.storage l.next;
    }
