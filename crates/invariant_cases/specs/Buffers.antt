-- The buffers of a search by cases.
use Rattle.std.specs.Prelude.{◌≡◌}
use Rattle.diagram_program.specs.Program.{Drawing}
use Rattle.scan_partial.specs.Sizes.{HasSizes, IsSpareFor}
use Rattle.invariant_cases.specs.declared.buffers.CaseBuffers.{CaseBuffers}

-- They are as long as the program needs.
pub record AreCaseBuffers (p : Drawing) (b : CaseBuffers) : Type 0 where
  pub case : HasSizes p b.case
  pub trial : HasSizes p b.trial
  pub room : IsSpareFor p b.room

-- The second are the first, with anything known after a scan: the case and the room are unchanged.
pub record KeepBuffers (p : Drawing) (b c : CaseBuffers) : Type 0 where
  pub case : c.case ≡ b.case
  pub trial : HasSizes p c.trial
  pub room : c.room ≡ b.room
