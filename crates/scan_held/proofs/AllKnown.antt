-- What is known where all is known that a state of the program stores.
use Rattle.std.proofs.Common.{◌≡◌, ◌∙◌, ap, sym, length}
use Rattle.std.proofs.lemmas.List.{length-map}
use Rattle.diagram_program.specs.Program.{Drawing}
use Rattle.scan_cycle.specs.Standing.{Standing, Fits, IsStanding}
use Rattle.scan_partial.specs.Sizes.{HasSizes, IsAsLong}
use Rattle.scan_signals.specs.Algebra.{Algebra}
use Rattle.scan_symbolic.specs.KnownScan.{Keeping, Known, all_known}

instances : (p : Drawing) (s : Standing) → Fits p s → IsStanding s → length s.held.kept.blocks ≡ length p.decls.instances
instances p s fits standing = standing.sound.as_many ∙ ap length fits.kinds ∙ length-map p.decls.instances (λ i. i.kind)

module _ {S B : Type 0} (p : Drawing) (s : Standing) (fits : Fits p s) (standing : IsStanding s) where
  pub as_long_as : (k : Known S B) → HasSizes p k → IsAsLong k s.held
  as_long_as k has = record {
    values = has.values ∙ sym fits.values;
    memories = has.memories ∙ sym fits.memories;
    blocks = has.blocks ∙ sym (instances p s fits standing);
  }

  pub all_there : (o : Algebra S) (w : Keeping S B) (k : Known S B) → k ≡ all_known o w s.held → HasSizes p k
  all_there o w k e = record {
    values = ap (λ (x : Known S B). length x.values) e ∙ length-map s.held.values o.known ∙ fits.values;
    memories = ap (λ (x : Known S B). length x.memories) e ∙ length-map s.held.kept.memories o.known ∙ fits.memories;
    blocks = ap (λ (x : Known S B). length x.blocks) e ∙ length-map s.held.kept.blocks w.stored ∙ instances p s fits standing;
  }
