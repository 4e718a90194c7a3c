-- Guards and jumps: the relational law, and over truth values what a rung adds to the guards of later rungs.
use Rattle.std.proofs.Common.{◌≡◌, ℕ, ◌+◌, ◌<◌, Bool, true, false, not, cond, List, [], ◌∷◌, ◌++◌, get_or, length, zero, suc, nat_lt, refl, ap, ◌∙◌, arith, ◌&&◌, Option, Some, None}
use Rattle.std.proofs.lemmas.List.{get_or_push, get_or_append_left}
use Rattle.std.proofs.lemmas.Bool.Decides.{nat_tests}
use Rattle.scan_signals.specs.Algebra.{Algebra}
use Rattle.scan_signals.specs.Relations.{IsKept, Both}
use Rattle.scan_signals.specs.Truth.{plain}
use Rattle.scan_cycle.specs.Cells.{Diagram}
use Rattle.scan_cycle.specs.RungByRung.{rung_after}
use Rattle.scan_cycle.proofs.Kept.{either, get_kept}
use Rattle.scan_symbolic.specs.KnownScan.{meet_where, passes_over, guard_of, taken_by}

-- ---- over any signals
module _ {A B : Type 0} (a : Algebra A) (b : Algebra B) (R : A → B → Type 0) (k : IsKept a b R) where
  meet_kept : (p : ℕ → Bool) (f : ℕ → A) (g : ℕ → B) → ((i : ℕ) → R (f i) (g i)) → (n : ℕ) → R (meet_where a p f n) (meet_where b p g n)
  unfolding meet_where
  meet_kept p f g h zero = k.known true
  meet_kept p f g h (suc n) = either a b R k (p n) _ _ _ _ (k.meet _ _ _ _ (meet_kept p f g h n) (h n)) (meet_kept p f g h n)

  pub guard_kept : (d : Diagram) (xs : List A) (vs : List B) → Both R xs vs → (j : ℕ) → R (guard_of a d xs j) (guard_of b d vs j)
  guard_kept d xs vs h j = meet_kept (λ i. passes_over (d.jump i) j) _ _ (λ i. k.inverse _ _ (get_kept a b R k xs vs h (a.known false) (b.known false) (k.known false) i)) j

  pub taken_kept : (leap : Option (ℕ × ℕ)) (m : A) (n : B) → R m n → (l : ℕ → A) (u : ℕ → B) → ((e : ℕ) → R (l e) (u e)) → R (taken_by a leap m l) (taken_by b leap n u)
  taken_kept None m n r l u links = k.known false
  taken_kept (Some (place, target)) m n r l u links = k.meet _ _ _ _ r (links place)

-- of the left links only that of the jump's place is read
pub taken_same : {S : Type 0} (o : Algebra S) (leap : Option (ℕ × ℕ)) (guard : S) (l u : ℕ → S)
    → ((place target : ℕ) → leap ≡ Some (place, target) → l place ≡ u place) → taken_by o leap guard l ≡ taken_by o leap guard u
taken_same o None guard l u h = refl
taken_same o (Some (place, target)) guard l u h = ap (o.meet guard) (h place target refl)

-- ---- over truth values

-- the guard of rung j so far as the first n rungs make it
abbrev pub guard_upto : Diagram → List Bool → ℕ → ℕ → Bool
guard_upto d taken n j = meet_where plain (λ i. passes_over (d.jump i) j) (λ i. not (get_or taken i false)) n

meet_same : (p f g : ℕ → Bool) (n : ℕ) → ((i : ℕ) → i < n → f i ≡ g i) → meet_where plain p f n ≡ meet_where plain p g n
unfolding meet_where
meet_same p f g zero e = refl
meet_same p f g (suc n) e =
    ap (λ s. cond (p n) (s && f n) s) (meet_same p f g n (λ i h. e i (omega arith)))
    ∙ ap (λ y. cond (p n) (meet_where plain p g n && y) (meet_where plain p g n)) (e n (omega arith))

pub guard_push : (d : Diagram) (taken : List Bool) (x : Bool) (n j : ℕ) → length taken ≡ n →
    guard_upto d (taken ++ (x ∷ [])) (suc n) j ≡ cond (passes_over (d.jump n) j) (guard_upto d taken n j && not x) (guard_upto d taken n j)
unfolding meet_where
guard_push d taken x n j h =
    let p = λ (i : ℕ). passes_over (d.jump i) j in
    let same : meet_where plain p (λ i. not (get_or (taken ++ (x ∷ [])) i false)) n ≡ meet_where plain p (λ i. not (get_or taken i false)) n = meet_same p _ _ n (λ i k. ap not (get_or_append_left taken (x ∷ []) false i (omega (arith, h)))) in
    ap (λ y. cond (p n) (meet_where plain p (λ i. not (get_or (taken ++ (x ∷ [])) i false)) n && not y) (meet_where plain p (λ i. not (get_or (taken ++ (x ∷ [])) i false)) n)) (get_or_push taken x false n h)
    ∙ ap (λ s. cond (p n) (s && not x) s) same

jump_more : (b x : Bool) (n j r t : ℕ) → n < j → nat_lt n r ≡ b →
    cond (nat_lt j t) (not (nat_lt j r) && not (not b && x)) (not (nat_lt j r)) ≡ not (nat_lt j (cond b r (cond x t (n + 1))))
jump_more true x n j r t h e = grind (arith, nat_tests)
jump_more false true n j r t h e = grind (arith, nat_tests)
jump_more false false n j r t h e = grind (arith, nat_tests)

no_more : (b : Bool) (n j r : ℕ) → n < j → nat_lt n r ≡ b → not (nat_lt j r) ≡ not (nat_lt j (cond b r (n + 1)))
no_more true n j r h e = refl
no_more false n j r h e = grind (arith, nat_tests)

pub guard_more : (b : Bool) (leap : Option (ℕ × ℕ)) (links : ℕ → Bool) (n j r : ℕ) → n < j → nat_lt n r ≡ b →
    cond (passes_over leap j) (not (nat_lt j r) && not (taken_by plain leap (not b) links)) (not (nat_lt j r)) ≡ not (nat_lt j (cond b r (rung_after n leap links)))
guard_more b None links n j r h e = no_more b n j r h e
guard_more b (Some (place, target)) links n j r h e = jump_more b (links place) n j r target h e
