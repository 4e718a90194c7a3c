-- A look: one scan over any signal, from a state that is known, which leaves the state as it is.
use Rattle.std.specs.Prelude.{ℕ, List}
use Rattle.scan_signals.specs.declared.block.Stored.{Stored}
use Rattle.scan_signals.specs.Algebra.{Algebra}
use Rattle.scan_signals.specs.Blocks.{q_of}
use Rattle.scan_cycle.specs.Cells.{Diagram, q_from}
use Rattle.scan_cycle.specs.Rung.{Held}
use Rattle.scan_symbolic.specs.KnownScan.{Keeping, all_known, after_known}

-- What a look keeps of an instance: what is stored, which stays, since a scan steps no instance twice, and its Q.
pub record Glimpse (S : Type 0) : Type 0 where
  pub stored : Stored
  pub q : S

abbrev pub at_a_glance : {S : Type 0} → Algebra S → Keeping S (Glimpse S)
at_a_glance o = record {
  stored = λ s. record { stored = s; q = o.known (q_of s) };
  q = λ b. b.q;
  step = λ kind preset b x y now. record { stored = b.stored; q = q_from o kind preset b.stored now x y };
  choice = λ c b e. record { stored = b.stored; q = o.choice c b.q e.q };
}

-- The values of the variables after one scan over the signal.
unfoldable pub after_look : {S : Type 0} → Algebra S → Diagram → ℕ → List S → Held → List S
after_look o d now inputs h = (after_known o (at_a_glance o) d now inputs (all_known o (at_a_glance o) h)).values
