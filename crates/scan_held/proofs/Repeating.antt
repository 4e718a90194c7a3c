-- A state that comes again: the scans after it are those before it.
use Rattle.std.proofs.Common.{◌≡◌, ◌∙◌, ℕ, ◌+◌, ◌-◌, ◌*◌, ◌<◌, ◌≤◌, ◌⊎◌, Bool, false, List, sym, ap, subst, suc, arith, None, slice_index_or, inl, inr}
use Rattle.scan_held.specs.Later.{GoesOnAlike, IsLaterState}
use Rattle.scan_cycle.specs.Cells.{Diagram}
use Rattle.scan_cycle.specs.Rung.{Held}
use Rattle.scan_cycle.specs.Scan.{after_scan}
use Rattle.scan_cycle.specs.Standing.{Fits, Standing}
use Rattle.diagram_program.specs.Program.{Drawing}
use Rattle.scan_held.specs.Holding.{RepeatsAreNever, after_scans, first_on, is_on_after, moment_of}
use Rattle.scan_held.specs.declared.scans.Scans.{Scans}
use Rattle.scan_held.proofs.Periods.{later_by, none_of, none_within, not_before, off_below as off_from}

module _ (d : Diagram) (alike : GoesOnAlike d) (h : Held) (first : ℕ) (s : Scans) (inputs : List Bool) (coil i k : ℕ) (some : 0 < i) (period : 0 < k)
    (again : IsLaterState d (moment_of first s (i - 1)) (s.every * k) (after_scans d (moment_of first s) inputs i h) (after_scans d (moment_of first s) inputs (i + k) h))
    (off : (n : ℕ) → 1 ≤ n → n ≤ i + k → is_on_after d (moment_of first s) inputs h coil n ≡ false) where
  abbrev Pair : ℕ → ℕ → Type 0
  Pair x y = IsLaterState d (moment_of first s (i - 1)) (s.every * k) (after_scans d (moment_of first s) inputs x h) (after_scans d (moment_of first s) inputs y h)

  one_more : (x : ℕ) → i ≤ x → Pair x (x + k) → Pair (suc x) (suc (x + k))
  unfolding after_scans
  one_more x l p =
      subst (λ (m : ℕ). IsLaterState d (moment_of first s (i - 1)) (s.every * k) (after_scans d (moment_of first s) inputs (suc x) h)
      (after_scan d m inputs (after_scans d (moment_of first s) inputs (x + k) h))) (sym (later_by first s i k x))
      (alike (moment_of first s (i - 1)) (s.every * k) (moment_of first s x) (not_before first s i k x l) inputs _ _ p)

  off_below : (most n : ℕ) → n ≤ most → 1 ≤ n → is_on_after d (moment_of first s) inputs h coil n ≡ false
  off_below = off_from Pair (is_on_after d (moment_of first s) inputs h coil) i k some period again one_more
      (λ x y p. ap (λ (vs : List Bool). slice_index_or vs coil false) (sym p.values)) off

  never : (count : ℕ) → first_on d (moment_of first s) inputs h coil count ≡ None
  never count = none_of (is_on_after d (moment_of first s) inputs h coil) 1 count (λ x l. off_below x x (omega arith) l)

pub repeats : (d : Diagram) → GoesOnAlike d → RepeatsAreNever d
repeats d alike h first s inputs coil i m count some before again off =
    let k = m - i in
    let whole : i + k ≡ m = omega (arith, before) in
    let later = subst (λ (n : ℕ). IsLaterState d (moment_of first s (i - 1)) (s.every * k) (after_scans d (moment_of first s) inputs i h) (after_scans d (moment_of first s) inputs n h))
    (sym whole) again in
    never d alike h first s inputs coil i k some (omega (arith, before)) later
    (λ n one l. none_within (is_on_after d (moment_of first s) inputs h coil) 1 m n off one (omega (arith, l, whole))) count

-- A mark that is kept or renewed is that of the state after its scans.
pub still_marked : (d : Diagram) (moment : ℕ → ℕ) (inputs : List Bool) (h : Held) (old now new : Standing) (marked done m : ℕ)
    → ((m ≡ marked) × (new ≡ old)) ⊎ ((m ≡ done) × (new ≡ now)) → (0 < marked → old.held ≡ after_scans d moment inputs marked h)
    → now.held ≡ after_scans d moment inputs done h → 0 < m → new.held ≡ after_scans d moment inputs m h
still_marked d moment inputs h old now new marked done m (inl kept) was is some =
    ap (λ (x : Standing). x.held) kept.1 ∙ was (omega (arith, some, kept.0)) ∙ ap (λ (n : ℕ). after_scans d moment inputs n h) (sym kept.0)
still_marked d moment inputs h old now new marked done m (inr renewed) was is some =
    ap (λ (x : Standing). x.held) renewed.1 ∙ is ∙ ap (λ (n : ℕ). after_scans d moment inputs n h) (sym renewed.0)

pub still_fits : (p : Drawing) (old now new : Standing) (marked done m : ℕ) → ((m ≡ marked) × (new ≡ old)) ⊎ ((m ≡ done) × (new ≡ now)) → Fits p old → Fits p now → Fits p new
still_fits p old now new marked done m (inl kept) was is = rw kept.1 was
still_fits p old now new marked done m (inr renewed) was is = rw renewed.1 is
