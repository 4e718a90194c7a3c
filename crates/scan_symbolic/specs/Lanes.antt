-- Looks that stand in the lanes of another look.
use Rattle.std.specs.Prelude.{◌≡◌, ℕ, false, List, slice_index_or}
use Rattle.scan_signals.specs.Algebra.{Algebra}
use Rattle.scan_cycle.specs.Cells.{Diagram}
use Rattle.scan_signals.specs.Relations.{Both}
use Rattle.scan_cycle.specs.Rung.{Held}
use Rattle.scan_symbolic.specs.Look.{after_look}
use Rattle.scan_symbolic.specs.Outcomes.{left_of}

-- `value` is what a look leaves of a variable, wherever `wide` is what a look leaves of it whose inputs have those of the first in their
-- lane.
abbrev pub IsLookInLane : {A B : Type 0} → Algebra A → Algebra B → (A → B → Type 0) → ℕ → A → B → Type 0
IsLookInLane {A} {B} a b InLane var wide value = (d : Diagram) (h : Held) (now : ℕ) (xs : List A) (ys : List B) → Both InLane xs ys
    → wide ≡ slice_index_or (after_look a d now xs h) var (a.known false) → value ≡ slice_index_or (after_look b d now ys h) var (b.known false)

-- `wide` is what a look leaves of a variable, and the inputs of this look have in their lane those of another one.
pub record IsWideLook {A B : Type 0} (a : Algebra A) (InLane : A → B → Type 0) (var : ℕ) (wide : A) : Type 0 where
  pub diagram : Diagram
  pub held : Held
  pub now : ℕ
  pub xs : List A
  pub ys : List B
  pub both : Both InLane xs ys
  pub is : wide ≡ left_of a diagram now xs held var
