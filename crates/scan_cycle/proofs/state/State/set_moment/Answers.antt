use Rattle.std.proofs.Common.{◌≤◌, sym, subst}
use Rattle.scan_cycle.specs.Standing.{Standing}
use Rattle.scan_cycle.proofs.Possible.{later_sound}
use Rattle.scan_cycle.proofs.state.State.set_moment.Goals as goal

pub invariant_of-self : goal.invariant_of-self
invariant_of-self c =
    (c.self.invariant.0, later_sound _ _ _ _ c.self.invariant.1 (subst (λ (s : Standing). s.moment ≤ c.args.moment) (sym c.self.view_is) c.requires))
