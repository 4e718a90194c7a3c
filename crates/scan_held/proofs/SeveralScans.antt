-- What is known through several scans allows what the scans leave, and tells the first scan after which a variable is ON.
use Rattle.std.proofs.Common.{◌≡◌, ◌∙◌, ℕ, Bool, true, false, cond, List, [], ◌∷◌, map, refl, sym, ap, subst, zero, suc, Some, None, slice_index_or}
use Rattle.std.specs.Prelude.{find}
use Rattle.std.specs.List.{range_with_len}
use Rattle.std.proofs.lemmas.Option.{same_Some}
use Rattle.scan_signals.specs.declared.block.Stored.{Stored}
use Rattle.scan_cycle.specs.Cells.{Diagram}
use Rattle.scan_symbolic.specs.KnownLaws.{BothAt, BothKnown, KnownIsScan, ScanKeeps}
use Rattle.scan_symbolic.specs.KnownScan.{Known, after_known, all_known, plainly}
use Rattle.scan_signals.specs.Relations.{AllowsAt, Both}
use Rattle.scan_cycle.specs.Rung.{Held}
use Rattle.scan_signals.specs.Truth.{OnePlace, plain}
use Rattle.scan_held.specs.Holding.{after_scans, is_on_after}
use Rattle.scan_held.specs.SeveralLaws.{AllowsScans, AreAllowed, Tells, after_all_known, is_not_off, known_after, partly_after}
use Rattle.scan_held.specs.Partly.{may_store, partly}
use Rattle.scan_signals.specs.Three.{AnyTri, three, three_allows, three_known}
use Rattle.scan_held.specs.declared.partly.Partly.TheVariants.{Exactly}
use Rattle.scan_signals.specs.declared.tri.Tri.{Tri}
use Rattle.scan_signals.specs.declared.tri.Tri.TheVariants.{Off, On, Unsure}

abbrev Allows : Tri → Bool → Type 0
Allows = AllowsAt AnyTri OnePlace three_allows 0

known_allows : (b : Bool) → Allows (three_known b) b
known_allows true = (tt, λ _. refl)
known_allows false = (tt, λ _. refl)

values_known : (vs : List Bool) → Both Allows (map three_known vs) (map (λ v. v) vs)
values_known [] = tt
values_known (v ∷ vs) = (known_allows v, values_known vs)

blocks_known : (ss : List Stored) → BothAt (λ inst. may_store) (map (λ s. Exactly s) ss) (map (λ s. s) ss)
blocks_known [] = tt
blocks_known (s ∷ ss) = (refl, blocks_known ss)

same_map : (vs : List Bool) → map (λ v. v) vs ≡ vs
same_map [] = refl
same_map (v ∷ vs) = ap (λ xs. v ∷ xs) (same_map vs)

at_both : (xs : List Tri) (vs : List Bool) → Both Allows xs vs → (i : ℕ) → Allows (slice_index_or xs i Off) (slice_index_or vs i false)
at_both [] [] h i = (tt, λ _. refl)
at_both [] (v ∷ vs) h i = absurd h
at_both (x ∷ xs) [] h i = absurd h
at_both (x ∷ xs) (v ∷ vs) h zero = h.0
at_both (x ∷ xs) (v ∷ vs) h (suc i) = at_both xs vs h.1 i

-- ---- the first of some numbers that passes a test
off_on : false ≡ true → ⊥
off_on h = cc

none_some : {A : Type 0} {x : A} → Some x ≡ None → ⊥
none_some h = cc

module _ (p q : ℕ → Bool) (more : (n : ℕ) → p n ≡ true → q n ≡ true) where
  step_none : (n : ℕ) (ns : List ℕ) (b c : Bool) → (b ≡ true → c ≡ true) → (find q ns ≡ None → find p ns ≡ None)
      → cond c (Some n) (find q ns) ≡ None → cond b (Some n) (find p ns) ≡ None
  step_none n ns b true m rest h = absurd (none_some h)
  step_none n ns true false m rest h = absurd (off_on (m refl))
  step_none n ns false false m rest h = rest h

  none_none : (ns : List ℕ) → find q ns ≡ None → find p ns ≡ None
  none_none [] h = refl
  none_none (n ∷ ns) h = step_none n ns (p n) (q n) (more n) (none_none ns) h

  step_first : (n : ℕ) (ns : List ℕ) (x : ℕ) (b c : Bool) → p n ≡ b → (b ≡ true → c ≡ true) → p x ≡ true → (find q ns ≡ Some x → find p ns ≡ Some x)
      → cond c (Some n) (find q ns) ≡ Some x → cond b (Some n) (find p ns) ≡ Some x
  step_first n ns x true true e m t rest h = h
  step_first n ns x false true e m t rest h = absurd (off_on (sym e ∙ ap p (same_Some n x h) ∙ t))
  step_first n ns x true false e m t rest h = absurd (off_on (m refl))
  step_first n ns x false false e m t rest h = rest h

  same_first : (ns : List ℕ) (x : ℕ) → find q ns ≡ Some x → p x ≡ true → find p ns ≡ Some x
  same_first [] x h t = cc
  same_first (n ∷ ns) x h t = step_first n ns x (p n) (q n) refl (more n) t (λ g. same_first ns x g t) h

not_off : (x : Tri) (b : Bool) → Allows x b → b ≡ true → is_not_off x ≡ true
not_off Off b h e = absurd (off_on (sym (h.1 refl) ∙ e))
not_off On b h e = refl
not_off Unsure b h e = refl

is_on : (x : Tri) (b : Bool) → Allows x b → x ≡ On → b ≡ true
is_on x b h e = (subst (λ (y : Tri). Allows y b) e h).1 refl

-- ---- scan by scan
module _ (d : Diagram) (keeps : (now : ℕ) → ScanKeeps d three plain partly plainly Allows (λ inst. may_store) now now) (known : KnownIsScan d) where
  scans_keep : (h : Held) (moment : ℕ → ℕ) (xs : List Tri) (vs : List Bool) → AreAllowed xs vs → (n : ℕ)
      → BothKnown Allows (λ inst. may_store) (partly_after d moment xs n h) (all_known plain plainly (after_scans d moment vs n h))
  unfolding after_all_known after_scans
  scans_keep h moment xs vs r zero = record { values = values_known h.values; memories = values_known h.kept.memories; blocks = blocks_known h.kept.blocks }
  scans_keep h moment xs vs r (suc n) =
      subst (λ (k : Known Bool Stored). BothKnown Allows (λ inst. may_store) (after_known three partly d (moment n) xs (partly_after d moment xs n h)) k)
      (known (after_scans d moment vs n h) (moment n) vs)
      (keeps (moment n) xs vs r _ _ (scans_keep h moment xs vs r n))

  values_keep : (h : Held) (moment : ℕ → ℕ) (xs : List Tri) (vs : List Bool) → AreAllowed xs vs → (n : ℕ)
      → Both Allows (partly_after d moment xs n h).values (after_scans d moment vs n h).values
  values_keep h moment xs vs r n =
      subst (λ (ws : List Bool). Both Allows (partly_after d moment xs n h).values ws)
      (same_map (after_scans d moment vs n h).values) (scans_keep h moment xs vs r n).values

  here : (h : Held) (moment : ℕ → ℕ) (xs : List Tri) (vs : List Bool) (coil : ℕ) → AreAllowed xs vs → (n : ℕ)
      → Allows (known_after d moment xs h coil n) (is_on_after d moment vs h coil n)
  here h moment xs vs coil r n = at_both _ _ (values_keep h moment xs vs r n) coil

  tells : (h : Held) (moment : ℕ → ℕ) (xs : List Tri) (vs : List Bool) (coil count : ℕ) → AreAllowed xs vs → Tells d moment xs vs h coil count
  tells h moment xs vs coil count r =
      let p = is_on_after d moment vs h coil in
      let q = λ (n : ℕ). is_not_off (known_after d moment xs h coil n) in
      let more : (n : ℕ) → p n ≡ true → q n ≡ true = λ n e. not_off _ _ (here h moment xs vs coil r n) e in
      record {
        none = λ e. none_none p q more (range_with_len 1 count) e;
        some = λ n e on. same_first p q more (range_with_len 1 count) n e (is_on _ _ (here h moment xs vs coil r n) on);
      }

  pub allows_scans : AllowsScans d
  allows_scans = record { allows = values_keep; tells = tells }
