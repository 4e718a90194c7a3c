use Rattle.std.proofs.Common.{◌∙◌, sym, ◌≤◌, arith}
use Rattle.scan_cycle.specs.Programs.{diagram_of}
use Rattle.scan_incremental.proofs.Frames.{rest_is_still, rest_goes_on}
use Rattle.scan_incremental.proofs.scanning.scan_rung.Goals as goal

pub returns-in-Some-clause-held : goal.returns-in-Some-clause-held
returns-in-Some-clause-held c =
    let s = c.args.scene in
    let least : s.now ≤ s.now = omega arith in
    sym (rest_is_still (diagram_of s.program.now) c.requires.program s.now s.now s.rung c.in-Some.after c.args.storage.now least
    (c.requires.rest.rests s.rung c.in-Some.after (sym c.known_next.ensures ∙ c.in-Some.is)))

pub returns-in-Some-clause-after : goal.returns-in-Some-clause-after
returns-in-Some-clause-after c =
    let s = c.args.scene in
    let least : s.now ≤ s.now = omega arith in
    sym (rest_goes_on (diagram_of s.program.now) c.requires.program s.now s.now s.rung c.in-Some.after c.args.storage.now least
    (c.requires.rest.rests s.rung c.in-Some.after (sym c.known_next.ensures ∙ c.in-Some.is)))
