-- Through several scans each lane goes on as by itself.
use Rattle.std.proofs.Common.{◌≡◌, ◌<◌, ℕ, Bool, false, List, [], ◌∷◌, map, refl, ap, subst, zero, suc, slice_index_or}
use Rattle.std.specs.Prelude.{find}
use Rattle.std.specs.List.{range_with_len}
use Rattle.scan_signals.specs.declared.block.Stored.{Stored}
use Rattle.scan_signals.specs.Relations.{AllowsAt, Both}
use Rattle.scan_signals.specs.Truth.{plain}
use Rattle.scan_cycle.specs.Cells.{Diagram}
use Rattle.scan_cycle.specs.Rung.{Held}
use Rattle.scan_held.specs.Holding.{after_scans, is_on_after}
use Rattle.scan_symbolic.specs.KnownLaws.{BothAt, BothKnown, KnownIsScan, ScanKeeps}
use Rattle.scan_symbolic.specs.KnownScan.{Known, after_known, all_known, plainly}
use Rattle.scan_signals.specs.WordLaws.{words_allowed, words_lattice}
use Rattle.scan_signals.specs.Words.{IsBit, IsWord, word, word_allows, words}
use Rattle.scan_signals.specs.declared.word.Word64.{Word64}
use Rattle.scan_held.specs.Lanes.{lanes}
use Rattle.scan_held.specs.LanesLaws.{IsInLane, bit_is, in_alike}
use Rattle.scan_held.specs.SeveralLanes.{LanesGoAlone, StandInLane, is_on_in_lane, lanes_after}
use Rattle.scan_held.specs.declared.lanes.Lanes.TheVariants.{Alike}

abbrev Stands : ℕ → Word64 → Bool → Type 0
Stands p = AllowsAt IsWord IsBit word_allows p

known_stands : (p : ℕ) (b : Bool) → Stands p (words.known b) b
known_stands p b = (words_lattice.known_value b, λ h. words_allowed.known_allows b p h)

values_known : (p : ℕ) (vs : List Bool) → Both (Stands p) (map words.known vs) (map (λ v. v) vs)
values_known p [] = tt
values_known p (v ∷ vs) = (known_stands p v, values_known p vs)

blocks_known : (p : ℕ) (ss : List Stored) → BothAt (λ inst. IsInLane p) (map (λ s. Alike s) ss) (map (λ s. s) ss)
blocks_known p [] = tt
blocks_known p (s ∷ ss) = (in_alike s p s (λ h. refl), blocks_known p ss)

same_map : (vs : List Bool) → map (λ v. v) vs ≡ vs
same_map [] = refl
same_map (v ∷ vs) = ap (λ xs. v ∷ xs) (same_map vs)

off_stands : (p : ℕ) → Stands p (word 0) false
off_stands p = known_stands p false

at_both : (p : ℕ) (xs : List Word64) (vs : List Bool) → Both (Stands p) xs vs → (i : ℕ) → Stands p (slice_index_or xs i (word 0)) (slice_index_or vs i false)
at_both p [] [] h i = off_stands p
at_both p [] (v ∷ vs) h i = absurd h
at_both p (x ∷ xs) [] h i = absurd h
at_both p (x ∷ xs) (v ∷ vs) h zero = h.0
at_both p (x ∷ xs) (v ∷ vs) h (suc i) = at_both p xs vs h.1 i

same_find : (p q : ℕ → Bool) → ((n : ℕ) → p n ≡ q n) → (ns : List ℕ) → find p ns ≡ find q ns
same_find p q same [] = refl
same_find p q same (n ∷ ns) = rw (same n, same_find p q same ns) refl

-- ---- scan by scan
module _ (d : Diagram) (keeps : (p now : ℕ) → ScanKeeps d words plain lanes plainly (Stands p) (λ inst. IsInLane p) now now) (known : KnownIsScan d) where
  scans_keep : (h : Held) (moment : ℕ → ℕ) (p : ℕ) (xs : List Word64) (vs : List Bool) → StandInLane p xs vs → (n : ℕ)
      → BothKnown (Stands p) (λ inst. IsInLane p) (lanes_after d moment xs n h) (all_known plain plainly (after_scans d moment vs n h))
  unfolding lanes_after after_scans
  scans_keep h moment p xs vs r zero = record { values = values_known p h.values; memories = values_known p h.kept.memories; blocks = blocks_known p h.kept.blocks }
  scans_keep h moment p xs vs r (suc n) =
      subst (λ (k : Known Bool Stored). BothKnown (Stands p) (λ inst. IsInLane p) (after_known words lanes d (moment n) xs (lanes_after d moment xs n h)) k)
      (known (after_scans d moment vs n h) (moment n) vs)
      (keeps p (moment n) xs vs r _ _ (scans_keep h moment p xs vs r n))

  values_keep : (h : Held) (moment : ℕ → ℕ) (p : ℕ) (xs : List Word64) (vs : List Bool) → StandInLane p xs vs → (n : ℕ)
      → StandInLane p (lanes_after d moment xs n h).values (after_scans d moment vs n h).values
  values_keep h moment p xs vs r n =
      subst (λ (ws : List Bool). StandInLane p (lanes_after d moment xs n h).values ws)
      (same_map (after_scans d moment vs n h).values) (scans_keep h moment p xs vs r n).values

  on_alike : (h : Held) (moment : ℕ → ℕ) (p : ℕ) → p < 64 → (xs : List Word64) (vs : List Bool) (coil : ℕ) → StandInLane p xs vs → (n : ℕ)
      → is_on_in_lane d moment xs h coil p n ≡ is_on_after d moment vs h coil n
  on_alike h moment p l xs vs coil r n =
      bit_is _ p (is_on_after d moment vs h coil n) ((at_both p _ _ (values_keep h moment p xs vs r n) coil).1 l)

  pub go_alone : LanesGoAlone d
  go_alone = record {
    values = values_keep;
    first = λ h moment p l xs vs coil count r.
        same_find (is_on_in_lane d moment xs h coil p) (is_on_after d moment vs h coil) (on_alike h moment p l xs vs coil r) (range_with_len 1 count);
  }
