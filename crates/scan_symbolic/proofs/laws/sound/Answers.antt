use Rattle.std.proofs.Common.{List, Bool, subst}
use Rattle.scan_signals.specs.Relations.{AllowsAt, Both}
use Rattle.scan_cycle.specs.Programs.{diagram_of}
use Rattle.scan_symbolic.specs.Look.{after_look}
use Rattle.scan_symbolic.proofs.laws.sound.Goals as goal

pub returns : goal.returns
returns g c = λ p h now xs vs both.
    let kept = c.related.ensures (record { place = p; of = record {} }) (diagram_of c.args.program.now) h now xs vs both in
    subst (λ (ys : List Bool). Both (AllowsAt g.S.Operations.value g.S.Signal.place g.S.Signal.allows p) (after_look g.S.Operations.algebra (diagram_of c.args.program.now) now xs h) ys)
    (c.look_is_scan.ensures h now vs) kept
