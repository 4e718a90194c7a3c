use Rattle.std.proofs.Common.{◌∙◌, ap, arith, length}
use Rattle.scan_cycle.specs.Standing.{Standing}
use Rattle.scan_cycle.proofs.Possible.{after_sound}
use Rattle.scan_cycle.proofs.scanning.scan.Goals as goal

pub returns-clause-fits : goal.returns-clause-fits
returns-clause-fits c = λ fits. record {
  values = c.scan_storage.ensures.lengths.values ∙ ap (λ (s : Standing). length s.held.values) c.state.view_is ∙ fits.values;
  memories = c.scan_storage.ensures.lengths.memories ∙ ap (λ (s : Standing). length s.held.kept.memories) c.state.view_is ∙ fits.memories;
  kinds = ap (λ (s : Standing). s.kinds) c.state.view_is ∙ fits.kinds;
}

pub invariant_of-state : goal.invariant_of-state
invariant_of-state c = (
  c.scan_storage.ensures.sizes,
  after_sound c.state.inside.moment c.args.now _ _ _ c.state.invariant.1 (omega (arith, c.if-now-state.false)) c.scan_storage.ensures.shapes c.scan_storage.ensures.possible,
)
