-- What is known and comes again goes on alike. Of each instance the starts at the mark are one pair, and each start after it is later by
-- the time between; so the relation of starts is one to one, which merges need.
use Rattle.std.proofs.Common.{◌≡◌, ◌∙◌, ◌⊎◌, inl, inr, ℕ, suc, ◌+◌, ◌-◌, ◌≤◌, Bool, true, false, List, [], ◌∷◌, length, get_or, refl, sym, ap, subst, nat_eq, nat_lt, nat_le, arith}
use Rattle.std.proofs.lemmas.Bool.Decides.{nat_tests}
use Rattle.std.proofs.lemmas.Bool.{eqb-true, eqb-false}
use Rattle.scan_signals.specs.declared.block.Stored.{Stored}
use Rattle.scan_signals.specs.declared.block.Stored.TheVariants.{Timer, Counter, Bistable}
use Rattle.scan_signals.specs.Relations.{Both}
use Rattle.scan_cycle.specs.Cells.{Diagram}
use Rattle.scan_symbolic.specs.KnownLaws.{BothAt, BothKnown, StepsKeep}
use Rattle.scan_symbolic.proofs.KnownKept.{scan_keeps}
use Rattle.scan_symbolic.proofs.Lists.{both_same, each_both, get_both, same_both}
use Rattle.scan_signals.specs.Three.{three}
use Rattle.scan_signals.specs.declared.tri.Tri.{Tri}
use Rattle.scan_held.specs.Again.{KnownGoesOnAlike, PartlyAlike, StartAlike, StoredAlike}
use Rattle.scan_held.specs.Partly.{choice_partly, partly, step_partly}
use Rattle.scan_held.specs.declared.partly.Partly.{Partly}
use Rattle.scan_held.specs.declared.partly.Partly.TheVariants.{Exactly, SomeTimer, SomeCounter, SomeBistable, Anything}
use Rattle.scan_held.proofs.AlikeSteps.{choice_alike, q_alike, step_alike, three_same}

off_on : false ≡ true → ⊥
off_on h = cc

-- The starts a and b at the mark; or two from then on, the second later by `shift`.
abbrev RunBy : ℕ → ℕ → ℕ → ℕ → ℕ → ℕ → Type 0
RunBy moment shift a b s t = ((s ≡ a) × (t ≡ b)) ⊎ ((moment ≤ s) × (t ≡ s + shift))

same_test : (s t s2 t2 : ℕ) → (s ≡ t → s2 ≡ t2) → (s2 ≡ t2 → s ≡ t) → nat_eq s2 t2 ≡ nat_eq s t
same_test s t s2 t2 f g = from (nat_eq s t) refl (nat_eq s2 t2) refl
  where
    from : (b : Bool) → nat_eq s t ≡ b → (c : Bool) → nat_eq s2 t2 ≡ c → nat_eq s2 t2 ≡ nat_eq s t
    from true e true k = k ∙ sym e
    from true e false k = absurd (eqb-false s2 t2 k (f (eqb-true s t e)))
    from false e true k = absurd (eqb-false s t e (g (eqb-true s2 t2 k)))
    from false e false k = k ∙ sym e

-- ---- the starts of one instance
module _ (preset moment shift a b : ℕ) (alike : StartAlike preset moment shift a b) where
  start_alike : (s t : ℕ) → RunBy moment shift a b s t → StartAlike preset moment shift s t
  start_alike s t (inl e) = rw (e.0, e.1) alike
  start_alike s t (inr e) = inl e.1

  -- one from the mark and one from after it
  apart : (t s2 t2 : ℕ) → s2 ≡ b → moment ≤ t → t2 ≡ t + shift → StartAlike preset moment shift a b → (a ≡ t → s2 ≡ t2) × (s2 ≡ t2 → a ≡ t)
  apart t s2 t2 e le f (inl g) = (λ k. omega (arith, e, f, g, k), λ k. omega (arith, e, f, g, k))
  apart t s2 t2 e le f (inr g) = (λ k. absurd (omega (arith, le, k, g.0)), λ k. absurd (omega (arith, e, le, f, k, g.1)))

  single : (s t s2 t2 : ℕ) → RunBy moment shift a b s s2 → RunBy moment shift a b t t2 → nat_eq s2 t2 ≡ nat_eq s t
  single s t s2 t2 (inl e) (inl f) = same_test s t s2 t2 (λ k. e.1 ∙ sym f.1) (λ k. e.0 ∙ sym f.0)
  single s t s2 t2 (inl e) (inr f) =
      let both = apart t s2 t2 e.1 f.0 f.1 alike in
      same_test s t s2 t2 (λ k. both.0 (sym e.0 ∙ k)) (λ k. e.0 ∙ both.1 k)
  single s t s2 t2 (inr e) (inl f) =
      let both = apart s t2 s2 f.1 e.0 e.1 alike in
      same_test s t s2 t2 (λ k. sym (both.0 (sym f.0 ∙ sym k))) (λ k. sym (f.0 ∙ both.1 (sym k)))
  single s t s2 t2 (inr e) (inr f) = same_test s t s2 t2 (λ k. omega (arith, e.1, f.1, k)) (λ k. omega (arith, e.1, f.1, k))

  module _ (now : ℕ) (le : moment ≤ now) where
    has_passed : (s t : ℕ) → StartAlike preset moment shift s t → nat_le preset (now + shift - t) ≡ nat_le preset (now - s)
    has_passed s t (inl e) = let same : now + shift - t ≡ now - s = omega (arith, e) in ap (nat_le preset) same
    has_passed s t (inr e) = passed (omega (arith, e.2, le)) (omega (arith, e.3, le))
      where
        passed : preset ≤ now - s → preset ≤ now + shift - t → nat_le preset (now + shift - t) ≡ nat_le preset (now - s)
        passed f g = grind (arith, nat_tests)

    still_runs : (s t : ℕ) → StartAlike preset moment shift s t → nat_lt (now + shift - t) preset ≡ nat_lt (now - s) preset
    still_runs s t (inl e) = let same : now + shift - t ≡ now - s = omega (arith, e) in ap (λ n. nat_lt n preset) same
    still_runs s t (inr e) = passed (omega (arith, e.2, le)) (omega (arith, e.3, le))
      where
        passed : preset ≤ now - s → preset ≤ now + shift - t → nat_lt (now + shift - t) preset ≡ nat_lt (now - s) preset
        passed f g = grind (arith, nat_tests)

-- ---- steps and choices of all instances
module _ (d : Diagram) (moment shift : ℕ) (a b : ℕ → ℕ) (alike : (inst : ℕ) → StartAlike (d.preset inst) moment shift (a inst) (b inst)) (now : ℕ) (le : moment ≤ now) where
  abbrev Run : ℕ → ℕ → ℕ → Type 0
  Run inst = RunBy moment shift (a inst) (b inst)

  one_step : (inst : ℕ) (x y : Tri) (b c : Partly) → PartlyAlike (Run inst) b c
      → PartlyAlike (Run inst) (step_partly (d.kind inst) (d.preset inst) b x y now) (step_partly (d.kind inst) (d.preset inst) c x y (now + shift))
  one_step inst x y b c h =
      let start = start_alike (d.preset inst) moment shift _ _ (alike inst) in
      step_alike (Run inst) (single (d.preset inst) moment shift _ _ (alike inst)) (d.preset inst) now (now + shift) (inr (le, refl))
      (λ s t r. has_passed (d.preset inst) moment shift _ _ (alike inst) now le s t (start s t r))
      (λ s t r. still_runs (d.preset inst) moment shift _ _ (alike inst) now le s t (start s t r))
      (d.kind inst) x y b c h

  steps_alike : StepsKeep d partly partly (λ x y. x ≡ y) (λ inst. PartlyAlike (Run inst)) now (now + shift)
  steps_alike = record {
    past = λ inst. (refl, refl, refl, λ g. absurd (off_on g), λ g. refl);
    q = λ inst b c h. q_alike (Run inst) b c h;
    step = λ inst b c x y s t h e f.
        subst (λ (u : Tri). PartlyAlike (Run inst) (step_partly (d.kind inst) (d.preset inst) b x y now) (step_partly (d.kind inst) (d.preset inst) c u t (now + shift))) e
        (subst (λ (u : Tri). PartlyAlike (Run inst) (step_partly (d.kind inst) (d.preset inst) b x y now) (step_partly (d.kind inst) (d.preset inst) c x u (now + shift))) f
        (one_step inst x y b c h));
    choice = λ inst g h b e c f k p q.
        subst (λ (u : Tri). PartlyAlike (Run inst) (choice_partly g b e) (choice_partly u c f)) k
        (choice_alike (Run inst) (single (d.preset inst) moment shift _ _ (alike inst)) g b e c f p q);
  }

-- ---- the starts at the mark

-- the start of a timer that is known to run
start_of : ℕ → Partly → ℕ
start_of other (Exactly (Timer last true start q)) = start
start_of other x = other

module _ (preset moment shift : ℕ) where
  none_run : StartAlike preset moment shift 0 shift
  none_run = let e : shift ≡ 0 + shift = omega arith in inl e

  pair_stored : (s t : Stored) → StoredAlike (StartAlike preset moment shift) s t → StartAlike preset moment shift (start_of 0 (Exactly s)) (start_of shift (Exactly t))
  unfolding start_of
  pair_stored (Timer l true s q) (Timer l2 true s2 q2) h = h.3 refl
  pair_stored (Timer l true s q) (Timer l2 false s2 q2) h = absurd (off_on h.1)
  pair_stored (Timer l false s q) (Timer l2 true s2 q2) h = absurd (off_on (sym h.1))
  pair_stored (Timer l false s q) (Timer l2 false s2 q2) h = none_run
  pair_stored (Counter l v q) (Counter l2 v2 q2) h = none_run
  pair_stored (Bistable q) (Bistable q2) h = none_run
  pair_stored _ _ h = absurd h

  pair_alike : (x y : Partly) → PartlyAlike (StartAlike preset moment shift) x y → StartAlike preset moment shift (start_of 0 x) (start_of shift y)
  unfolding start_of
  pair_alike (Exactly s) (Exactly t) h = pair_stored s t h
  pair_alike (SomeTimer q) y h = subst (λ (z : Partly). StartAlike preset moment shift 0 (start_of shift z)) (sym h) none_run
  pair_alike (SomeCounter q) y h = subst (λ (z : Partly). StartAlike preset moment shift 0 (start_of shift z)) (sym h) none_run
  pair_alike (SomeBistable q) y h = subst (λ (z : Partly). StartAlike preset moment shift 0 (start_of shift z)) (sym h) none_run
  pair_alike Anything y h = subst (λ (z : Partly). StartAlike preset moment shift 0 (start_of shift z)) (sym h) none_run
  pair_alike _ _ h = cc

  by_stored : (s t : Stored) → StoredAlike (StartAlike preset moment shift) s t
      → StoredAlike (RunBy moment shift (start_of 0 (Exactly s)) (start_of shift (Exactly t))) s t
  unfolding start_of
  by_stored (Timer l true s q) (Timer l2 true s2 q2) h = (h.0, h.1, h.2, λ g. inl (refl, refl), h.4)
  by_stored (Timer l true s q) (Timer l2 false s2 q2) h = absurd (off_on h.1)
  by_stored (Timer l false s q) (Timer l2 r2 s2 q2) h = (h.0, h.1, h.2, λ g. absurd (off_on g), h.4)
  by_stored (Counter l v q) (Counter l2 v2 q2) h = h
  by_stored (Bistable q) (Bistable q2) h = h
  by_stored _ _ h = absurd h

  by_pair : (x y : Partly) → PartlyAlike (StartAlike preset moment shift) x y → PartlyAlike (RunBy moment shift (start_of 0 x) (start_of shift y)) x y
  by_pair (Exactly s) (Exactly t) h = by_stored s t h
  by_pair _ _ h = h

-- ---- a relation that says less
module _ (R T : ℕ → ℕ → Type 0) (less : (s t : ℕ) → R s t → T s t) where
  less_stored : (s t : Stored) → StoredAlike R s t → StoredAlike T s t
  less_stored (Timer l r s q) (Timer l2 r2 s2 q2) h = (h.0, h.1, h.2, λ g. less s s2 (h.3 g), h.4)
  less_stored (Counter l v q) (Counter l2 v2 q2) h = h
  less_stored (Bistable q) (Bistable q2) h = h
  less_stored _ _ h = absurd h

  less_alike : (x y : Partly) → PartlyAlike R x y → PartlyAlike T x y
  less_alike (Exactly s) (Exactly t) h = less_stored s t h
  less_alike _ _ h = h

-- ---- lists
as_many : {B C : Type 0} (Q : ℕ → B → C → Type 0) (xs : List B) (ys : List C) → BothAt Q xs ys → length xs ≡ length ys
as_many Q [] [] h = refl
as_many Q [] (y ∷ ys) h = absurd h
as_many Q (x ∷ xs) [] h = absurd h
as_many Q (x ∷ xs) (y ∷ ys) h = ap suc (as_many (λ i. Q (suc i)) xs ys h.1)

each_less : {B C : Type 0} (Q P : ℕ → B → C → Type 0) → ((i : ℕ) (x : B) (y : C) → Q i x y → P i x y) → (xs : List B) (ys : List C) → BothAt Q xs ys → BothAt P xs ys
each_less Q P f [] [] h = tt
each_less Q P f [] (y ∷ ys) h = absurd h
each_less Q P f (x ∷ xs) [] h = absurd h
each_less Q P f (x ∷ xs) (y ∷ ys) h = (f 0 x y h.0, each_less (λ i. Q (suc i)) (λ i. P (suc i)) (λ i. f (suc i)) xs ys h.1)

pub goes_on : (d : Diagram) → KnownGoesOnAlike d
goes_on d moment shift now le xs k l h =
    let a = λ (inst : ℕ). start_of 0 (get_or k.blocks inst Anything) in
    let b = λ (inst : ℕ). start_of shift (get_or l.blocks inst Anything) in
    let Q = λ (inst : ℕ). PartlyAlike (RunBy moment shift (a inst) (b inst)) in
    let each = get_both (λ inst. PartlyAlike (StartAlike (d.preset inst) moment shift)) k.blocks l.blocks h.blocks Anything Anything (λ i. refl) in
    let pair = λ (inst : ℕ). pair_alike (d.preset inst) moment shift _ _ (each inst) in
    let start : BothKnown (λ x y. x ≡ y) Q k l = record {
      values = subst (λ (ys : List Tri). Both (λ x y. x ≡ y) k.values ys) h.values (same_both k.values);
      memories = subst (λ (ys : List Tri). Both (λ x y. x ≡ y) k.memories ys) h.memories (same_both k.memories);
      blocks = each_both Q k.blocks l.blocks (as_many _ k.blocks l.blocks h.blocks) Anything Anything (λ i lt. by_pair (d.preset i) moment shift _ _ (each i));
    } in
    let end = scan_keeps three three partly partly (λ x y. x ≡ y) Q now (now + shift) d three_same (steps_alike d moment shift a b pair now le) xs xs (same_both xs) k l start in
    record {
      values = both_same _ _ end.values;
      memories = both_same _ _ end.memories;
      blocks = each_less Q (λ inst. PartlyAlike (StartAlike (d.preset inst) moment shift))
          (λ i. less_alike _ _ (start_alike (d.preset i) moment shift (a i) (b i) (pair i))) _ _ end.blocks;
    }
