-- Looks by some steps of a program in place of all.
use Rattle.std.specs.Prelude.{◌≡◌, ℕ, true, false, List, length, slice_index_or}
use Rattle.diagram_program.specs.declared.gates.TheConstants.{ON, OFF, LINKS}
use Rattle.diagram_program.specs.declared.steps.Step.{Step}
use Rattle.diagram_program.specs.Program.{Drawing}
use Rattle.scan_signals.specs.Algebra.{Algebra}
use Rattle.scan_cycle.specs.Programs.{diagram_of}
use Rattle.scan_cycle.specs.Rung.{Held}
use Rattle.scan_symbolic.specs.ByFrames.{look_frame}
use Rattle.scan_symbolic.specs.Outcomes.{left_of}
use Rattle.scan_symbolic.specs.Stepping.{all_gone, going}

-- These values are what the steps leave, one after the other, from what a look begins with: no jump is taken, and of the links ON and OFF
-- alone are settled, since a gate sets a link before another step looks at it.
pub record AreLeftBy {S : Type 0} (o : Algebra S) (p : Drawing) (now : ℕ) (steps : List Step) (inputs : List S) (h : Held) (values : List S) : Type 0 where
  pub taken : List S
  pub as_many : length taken ≡ p.rungs
  pub none : (i : ℕ) → slice_index_or taken i (o.known false) ≡ o.known false
  pub links : List S
  pub long : length links ≡ LINKS
  pub on : slice_index_or links ON (o.known false) ≡ o.known true
  pub off : slice_index_or links OFF (o.known false) ≡ o.known false
  pub are : values ≡ (all_gone o p h.kept now steps (going (look_frame o (diagram_of p) inputs h) taken links (o.known true))).frame.values

-- The steps leave of a variable what a look leaves of it.
abbrev pub LeaveAsLook : {S : Type 0} → Algebra S → Drawing → ℕ → List Step → List S → Held → ℕ → Type 0
LeaveAsLook {S} o p now steps inputs h var = (values : List S) → AreLeftBy o p now steps inputs h values
    → slice_index_or values var (o.known false) ≡ left_of o (diagram_of p) now inputs h var
