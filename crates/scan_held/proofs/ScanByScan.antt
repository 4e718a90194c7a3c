-- Scan by scan over three values, from a state on.
use Rattle.std.proofs.Common.{◌≡◌, ◌∙◌, ap, sym, refl, ℕ, ◌+◌, List, add-one, get_or}
use Rattle.diagram_program.specs.Program.{Drawing}
use Rattle.scan_cycle.specs.Cells.{Diagram}
use Rattle.scan_cycle.specs.Rung.{Held}
use Rattle.scan_partial.specs.Sizes.{AreAsLong, HasSizes}
use Rattle.scan_symbolic.specs.KnownScan.{Known, after_known, all_known}
use Rattle.scan_signals.specs.Three.{three}
use Rattle.scan_signals.specs.declared.tri.Tri.{Tri}
use Rattle.scan_signals.specs.declared.tri.Tri.TheVariants.{Off}
use Rattle.scan_held.specs.Partly.{partly}
use Rattle.scan_held.specs.SeveralLaws.{after_all_known, known_after, partly_after}
use Rattle.scan_held.specs.declared.partly.Partly.{Partly}

pub none_made : (d : Diagram) (moment : ℕ → ℕ) (xs : List Tri) (h : Held) → all_known three partly h ≡ partly_after d moment xs 0 h
unfolding after_all_known
none_made d moment xs h = refl

pub one_more : (d : Diagram) (moment : ℕ → ℕ) (xs : List Tri) (n : ℕ) (h : Held) (k next : Known Tri Partly) → k ≡ partly_after d moment xs n h
    → next ≡ after_known three partly d (moment n) xs k → next ≡ partly_after d moment xs (n + 1) h
unfolding after_all_known
one_more d moment xs n h k next e f = f ∙ ap (after_known three partly d (moment n) xs) e ∙ sym (ap (λ m. partly_after d moment xs m h) (add-one n))

pub value_is : (d : Diagram) (moment : ℕ → ℕ) (xs : List Tri) (n coil : ℕ) (h : Held) (k : Known Tri Partly) (x : Tri) → k ≡ partly_after d moment xs n h
    → x ≡ get_or k.values coil Off → x ≡ known_after d moment xs h coil n
value_is d moment xs n coil h k x e f = f ∙ ap (λ (l : Known Tri Partly). get_or l.values coil Off) e

pub both_long : (p : Drawing) (k l : Known Tri Partly) → HasSizes p k → HasSizes p l → AreAsLong k l
both_long p k l h g = record { values = h.values ∙ sym g.values; memories = h.memories ∙ sym g.memories; blocks = h.blocks ∙ sym g.blocks }
