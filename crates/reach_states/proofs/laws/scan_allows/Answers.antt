use Rattle.std.proofs.Common.{Bool, subst}
use Rattle.scan_signals.specs.declared.block.Stored.{Stored}
use Rattle.scan_signals.specs.Three.{three}
use Rattle.scan_signals.specs.Truth.{plain}
use Rattle.scan_cycle.specs.Programs.{diagram_of}
use Rattle.scan_symbolic.specs.KnownLaws.{BothKnown}
use Rattle.scan_symbolic.specs.KnownScan.{Known, after_known, all_known, plainly}
use Rattle.invariant_cases.specs.Allowing.{Allows}
use Rattle.reach_states.specs.Allowing.{HasRun, MayBe}
use Rattle.reach_states.specs.Untimed.{untimed}
use Rattle.reach_states.proofs.laws.scan_allows.Goals as goal

pub returns : goal.returns
returns c = λ timing now known inputs both k h allows.
    let d = diagram_of c.args.program.now in
    subst (λ (l : Known Bool Stored). BothKnown Allows (λ inst. MayBe (HasRun timing now (d.preset inst)) (d.kind inst) (d.preset inst)) (after_known three untimed d 0 known k) l)
    (c.known_is_scan.ensures h now inputs)
    (c.scan_keeps.ensures (record { timing = timing; now = now }) d known inputs both k (all_known plain plainly h) allows)
