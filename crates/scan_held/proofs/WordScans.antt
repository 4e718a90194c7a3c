-- Scan by scan over words, from a state on.
use Rattle.std.proofs.Common.{◌≡◌, ◌∙◌, ap, sym, refl, ℕ, ◌+◌, List, add-one, get_or}
use Rattle.scan_cycle.specs.Cells.{Diagram}
use Rattle.scan_cycle.specs.Rung.{Held}
use Rattle.scan_symbolic.specs.KnownScan.{Known, after_known, all_known}
use Rattle.scan_signals.specs.Words.{word, words}
use Rattle.scan_signals.specs.declared.word.Word64.{Word64}
use Rattle.scan_held.specs.Lanes.{bit, lanes}
use Rattle.scan_held.specs.SeveralLanes.{is_on_in_lane, lanes_after}
use Rattle.scan_held.specs.declared.lanes.Lanes.{Lanes}

pub none_made : (d : Diagram) (moment : ℕ → ℕ) (xs : List Word64) (h : Held) → all_known words lanes h ≡ lanes_after d moment xs 0 h
unfolding lanes_after
none_made d moment xs h = refl

pub one_more : (d : Diagram) (moment : ℕ → ℕ) (xs : List Word64) (n : ℕ) (h : Held) (k next : Known Word64 Lanes) → k ≡ lanes_after d moment xs n h
    → next ≡ after_known words lanes d (moment n) xs k → next ≡ lanes_after d moment xs (n + 1) h
unfolding lanes_after
one_more d moment xs n h k next e f = f ∙ ap (after_known words lanes d (moment n) xs) e ∙ sym (ap (λ m. lanes_after d moment xs m h) (add-one n))

pub value_is : (d : Diagram) (moment : ℕ → ℕ) (xs : List Word64) (n coil lane : ℕ) (h : Held) (k : Known Word64 Lanes) (x : Word64)
    → k ≡ lanes_after d moment xs n h → x ≡ get_or k.values coil (word 0) → bit x lane ≡ is_on_in_lane d moment xs h coil lane n
value_is d moment xs n coil lane h k x e f = ap (λ (y : Word64). bit y lane) (f ∙ ap (λ (l : Known Word64 Lanes). get_or l.values coil (word 0)) e)
