-- Several scans over words, from a state on, and what each lane has of them.
use Rattle.std.specs.Prelude.{◌≡◌, ◌<◌, ℕ, Bool, List, find, Option, slice_index_or, zero, suc}
use Rattle.std.specs.List.{range_with_len}
use Rattle.scan_signals.specs.Relations.{AllowsAt, Both}
use Rattle.scan_cycle.specs.Cells.{Diagram}
use Rattle.scan_cycle.specs.Rung.{Held}
use Rattle.scan_held.specs.Holding.{after_scans, first_on}
use Rattle.scan_symbolic.specs.KnownScan.{Known, after_known, all_known}
use Rattle.scan_signals.specs.Words.{IsBit, IsWord, word, word_allows, words}
use Rattle.scan_signals.specs.declared.word.Word64.{Word64}
use Rattle.scan_held.specs.Lanes.{bit, lanes}
use Rattle.scan_held.specs.declared.lanes.Lanes.{Lanes}

-- What is known after n scans, each given the same words; `moment` is that of each, by its number from 0.
unfoldable pub lanes_after : Diagram → (ℕ → ℕ) → List Word64 → ℕ → Held → Known Word64 Lanes
lanes_after d moment xs zero h = all_known words lanes h
lanes_after d moment xs (suc n) h = after_known words lanes d (moment n) xs (lanes_after d moment xs n h)

-- Lane p of these words has these truth values, each its own.
abbrev pub StandInLane : ℕ → List Word64 → List Bool → Type 0
StandInLane p = Both (AllowsAt IsWord IsBit word_allows p)

-- The variable is ON in lane p after the n-th scan, counted from 1.
abbrev pub is_on_in_lane : Diagram → (ℕ → ℕ) → List Word64 → Held → ℕ → ℕ → ℕ → Bool
is_on_in_lane d moment xs h coil p n = bit (slice_index_or (lanes_after d moment xs n h).values coil (word 0)) p

-- The first of so many scans after which it is ON in lane p; None where it is OFF there after each of them.
abbrev pub first_in_lane : Diagram → (ℕ → ℕ) → List Word64 → Held → ℕ → ℕ → ℕ → Option ℕ
first_in_lane d moment xs h coil p count = find (is_on_in_lane d moment xs h coil p) (range_with_len 1 count)

-- Each lane goes on as by itself: after each scan it has the values that the scans leave with the inputs of the lane, and so the first scan
-- after which a variable is ON is the same.
pub record LanesGoAlone (d : Diagram) : Type 0 where
  pub values : (h : Held) (moment : ℕ → ℕ) (p : ℕ) (xs : List Word64) (vs : List Bool) → StandInLane p xs vs → (n : ℕ)
      → StandInLane p (lanes_after d moment xs n h).values (after_scans d moment vs n h).values
  pub first : (h : Held) (moment : ℕ → ℕ) (p : ℕ) → p < 64 → (xs : List Word64) (vs : List Bool) (coil count : ℕ) → StandInLane p xs vs
      → first_in_lane d moment xs h coil p count ≡ first_on d moment vs h coil count
