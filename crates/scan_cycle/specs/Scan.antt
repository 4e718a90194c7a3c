-- One scan (IEC 61131-3): the input variables take the given values, then the rungs are evaluated from top to bottom. A jump whose left
-- link is ON is taken after its rung's effects: the rungs between it and its target are passed over, and these change nothing.
use Rattle.std.specs.Prelude.{ℕ, ◌+◌, ◌<◌, ◌≤◌, Bool, true, if◌then◌else◌, List, [], ◌∷◌, nat_lt, Some, None, zero, suc}
use Rattle.scan_cycle.specs.Cells.{Diagram}
use Rattle.scan_cycle.specs.Rung.{Held, link_at, evaluated}

-- The input variables take the given values, in order of declaration; the other variables keep theirs.
-- The first list says of each variable whether it is an input.
abbrev pub given : {S : Type 0} → List Bool → List S → List S → List S
given [] xs values = values
given (is_input ∷ more) xs [] = []
given (true ∷ more) (x ∷ xs) (v ∷ values) = x ∷ given more xs values
given (is_input ∷ more) xs (v ∷ values) = v ∷ given more xs values

-- The rung after rung j, by the left links that it had: the target of its jump, where the jump's left link is ON, and otherwise the rung below.
abbrev pub next_rung : Diagram → ℕ → ℕ → Held → ℕ
next_rung d now j h = elim (d.jump j) [ Some (place, target) ↦ if link_at d now j h place then target else j + 1 | None ↦ j + 1 ]

-- From rung j on, with this state, the rungs of the list are evaluated one after the other until none is left, and leave `last`.
pub data Evaluates (d : Diagram) (now : ℕ) : ℕ → Held → List ℕ → Held → Type 0 where
  none_left : (j : ℕ) (h : Held) → d.rungs ≤ j → Evaluates d now j h [] h
  one_more : (j : ℕ) (h : Held) (js : List ℕ) (last : Held) → j < d.rungs
      → Evaluates d now (next_rung d now j h) (evaluated d now j h) js last → Evaluates d now j h (j ∷ js) last

-- What these evaluations leave, as a function. Since jumps go down, no more than `most` rungs are left to evaluate
-- where that many are left below.
unfoldable pub evaluated_from : Diagram → ℕ → ℕ → ℕ → Held → Held
evaluated_from d now zero j h = h
evaluated_from d now (suc most) j h =
    if nat_lt j d.rungs then evaluated_from d now most (next_rung d now j h) (evaluated d now j h) else h

-- What one scan leaves.
abbrev pub after_scan : Diagram → ℕ → List Bool → Held → Held
after_scan d now inputs h = evaluated_from d now d.rungs 0 (record { values = given d.inputs inputs h.values; kept = h.kept })
