-- The buffers of a search by cases, side by side.
use Rattle.std.specs.Prelude.{◌≡◌, length}
use Rattle.diagram_program.specs.Program.{Drawing}
use Rattle.scan_partial.specs.Sizes.{HasSizes}
use Rattle.invariant_cases.specs.Buffers.{AreCaseBuffers, KeepBuffers}
use Rattle.diff_cases.specs.declared.buffers.AlikeBuffers.{AlikeBuffers}
use Rattle.diff_cases.specs.declared.tracing.TraceBuffers.{TraceBuffers}

-- They are as long as the program needs.
pub record AreTraceBuffers (p : Drawing) (b : TraceBuffers) : Type 0 where
  pub known : HasSizes p b.known
  pub blocks : length b.blocks.items ≡ length p.decls.instances

-- They are as long as the two programs need.
pub record AreAlikeBuffers (p q : Drawing) (b : AlikeBuffers) : Type 0 where
  pub of_old : AreCaseBuffers p b.of_old
  pub of_new : AreCaseBuffers q b.of_new
  pub old_traces : AreTraceBuffers p b.old_traces
  pub new_traces : AreTraceBuffers q b.new_traces

-- The second are the first, with anything known after the scans: both cases are unchanged.
pub record KeepAlikeBuffers (p q : Drawing) (b c : AlikeBuffers) : Type 0 where
  pub of_old : KeepBuffers p b.of_old c.of_old
  pub of_new : KeepBuffers q b.of_new c.of_new
  pub old_traces : AreTraceBuffers p c.old_traces
  pub new_traces : AreTraceBuffers q c.new_traces
