-- Where what is known comes again, the scans after it are those before it.
use Rattle.std.proofs.Common.{◌≡◌, ◌∙◌, ℕ, ◌+◌, ◌-◌, ◌*◌, ◌<◌, ◌≤◌, ◌⊎◌, Bool, false, List, sym, ap, subst, suc, arith, None, slice_index_or, inl, inr}
use Rattle.diagram_program.specs.Program.{Drawing}
use Rattle.scan_cycle.specs.Cells.{Diagram}
use Rattle.scan_cycle.specs.Rung.{Held}
use Rattle.scan_symbolic.specs.KnownScan.{Known, after_known}
use Rattle.scan_partial.specs.Sizes.{HasSizes}
use Rattle.scan_held.specs.Holding.{moment_of}
use Rattle.scan_held.specs.declared.scans.Scans.{Scans}
use Rattle.scan_held.proofs.Periods.{later_by, none_of, none_within, not_before, off_below as off_from}
use Rattle.scan_signals.specs.Three.{three}
use Rattle.scan_signals.specs.declared.tri.Tri.{Tri}
use Rattle.scan_signals.specs.declared.tri.Tri.TheVariants.{Off}
use Rattle.scan_held.specs.Again.{IsLaterKnown, KnownGoesOnAlike, KnownRepeatsStayOff}
use Rattle.scan_held.specs.Partly.{partly}
use Rattle.scan_held.specs.SeveralLaws.{after_all_known, first_open, is_not_off, known_after, partly_after}
use Rattle.scan_held.specs.declared.partly.Partly.{Partly}

module _ (d : Diagram) (alike : KnownGoesOnAlike d) (h : Held) (first : ℕ) (s : Scans) (xs : List Tri) (coil i k : ℕ) (some : 0 < i) (period : 0 < k)
    (again : IsLaterKnown d (moment_of first s (i - 1)) (s.every * k) (partly_after d (moment_of first s) xs i h) (partly_after d (moment_of first s) xs (i + k) h))
    (off : (n : ℕ) → 1 ≤ n → n ≤ i + k → is_not_off (known_after d (moment_of first s) xs h coil n) ≡ false) where
  abbrev Pair : ℕ → ℕ → Type 0
  Pair x y = IsLaterKnown d (moment_of first s (i - 1)) (s.every * k) (partly_after d (moment_of first s) xs x h) (partly_after d (moment_of first s) xs y h)

  abbrev opens : ℕ → Bool
  opens n = is_not_off (known_after d (moment_of first s) xs h coil n)

  one_more : (x : ℕ) → i ≤ x → Pair x (x + k) → Pair (suc x) (suc (x + k))
  unfolding after_all_known
  one_more x l p =
      subst (λ (m : ℕ). IsLaterKnown d (moment_of first s (i - 1)) (s.every * k) (partly_after d (moment_of first s) xs (suc x) h)
      (after_known three partly d m xs (partly_after d (moment_of first s) xs (x + k) h))) (sym (later_by first s i k x))
      (alike (moment_of first s (i - 1)) (s.every * k) (moment_of first s x) (not_before first s i k x l) xs _ _ p)

  off_below : (most n : ℕ) → n ≤ most → 1 ≤ n → opens n ≡ false
  off_below = off_from Pair opens i k some period again one_more (λ x y p. ap (λ (vs : List Tri). is_not_off (slice_index_or vs coil Off)) (sym p.values)) off

  never : (count : ℕ) → first_open d (moment_of first s) xs h coil count ≡ None
  never count = none_of opens 1 count (λ x l. off_below x x (omega arith) l)

pub repeats : (d : Diagram) → KnownGoesOnAlike d → KnownRepeatsStayOff d
repeats d alike h first s xs coil i m count some before again off =
    let k = m - i in
    let whole : i + k ≡ m = omega (arith, before) in
    let later = subst (λ (n : ℕ). IsLaterKnown d (moment_of first s (i - 1)) (s.every * k) (partly_after d (moment_of first s) xs i h) (partly_after d (moment_of first s) xs n h))
    (sym whole) again in
    never d alike h first s xs coil i k some (omega (arith, before)) later
    (λ n one l. none_within (λ (x : ℕ). is_not_off (known_after d (moment_of first s) xs h coil x)) 1 m n off one (omega (arith, l, whole))) count

-- A mark that is kept or renewed is what is known after its scans.
pub still_marked : (d : Diagram) (moment : ℕ → ℕ) (xs : List Tri) (h : Held) (old now new : Known Tri Partly) (marked done m : ℕ)
    → ((m ≡ marked) × (new ≡ old)) ⊎ ((m ≡ done) × (new ≡ now)) → (0 < marked → old ≡ partly_after d moment xs marked h)
    → now ≡ partly_after d moment xs done h → 0 < m → new ≡ partly_after d moment xs m h
still_marked d moment xs h old now new marked done m (inl kept) was is some =
    kept.1 ∙ was (omega (arith, some, kept.0)) ∙ ap (λ (n : ℕ). partly_after d moment xs n h) (sym kept.0)
still_marked d moment xs h old now new marked done m (inr renewed) was is some =
    renewed.1 ∙ is ∙ ap (λ (n : ℕ). partly_after d moment xs n h) (sym renewed.0)

pub still_sized : (p : Drawing) (old now new : Known Tri Partly) (marked done m : ℕ) → ((m ≡ marked) × (new ≡ old)) ⊎ ((m ≡ done) × (new ≡ now))
    → HasSizes p old → HasSizes p now → HasSizes p new
still_sized p old now new marked done m (inl kept) was is = rw kept.1 was
still_sized p old now new marked done m (inr renewed) was is = rw renewed.1 is
