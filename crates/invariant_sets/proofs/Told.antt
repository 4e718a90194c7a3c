-- Pairs of which one scan tells that they stay apart.
use Rattle.std.proofs.Common.{◌≡◌, ◌∙◌, ◌⊎◌, ◌<◌, ◌+◌, ◌-◌, add-one, inl, inr, ap, arith, refl, subst, sym, ℕ, Bool, true, false, List, [], ◌∷◌, ◌++◌, drop, get_or, length, not, suc}
use Rattle.std.specs.Prelude.{All, Contains, IsTrue, ◌&&◌}
use Rattle.std.proofs.lemmas.List.Elements.{All-contains, All-push, All-weaker, Contains-append_left, Contains-push}
use Rattle.std.proofs.lemmas.Bool.{cases_order}
use Rattle.std.proofs.lemmas.List.{get_or-drop, get_or_default, length-drop}
use Rattle.diagram_declarations.specs.declared.decls.Symbol.{Symbol}
use Rattle.diagram_program.specs.Program.{Drawing}
use Rattle.scan_cycle.specs.Programs.{diagram_of}
use Rattle.scan_cycle.specs.Rung.{Held}
use Rattle.scan_symbolic.specs.KnownScan.{Known, after_known}
use Rattle.scan_signals.specs.Three.{three, three_known, three_meet}
use Rattle.scan_signals.specs.declared.tri.Tri.{Tri}
use Rattle.scan_signals.specs.declared.tri.Tri.TheVariants.{Off, On, Unsure}
use Rattle.invariant_sets.specs.Never.{Bits, knowing}
use Rattle.invariant_cases.specs.Outcomes.{outcomes}
use Rattle.invariant_cases.specs.declared.outcome.Outcome.{Outcome}
use Rattle.invariant_sets.specs.Beginning.{HasEach, MustHave}
use Rattle.scan_cycle.specs.Standing.{Standing}
use Rattle.invariant_sets.specs.Pairs.{HasToldApart, IsOutside, IsToldApart, turned}
use Rattle.invariant_cases.specs.Allowing.{are_both_on, is_on_in}
use Rattle.invariant_cases.specs.Cases.{both_told, point_of, told}
use Rattle.invariant_cases.specs.declared.pair.Pair.{Pair}

-- ---- the other way round

meet_turned : (x y : Tri) → three_meet x y ≡ three_meet y x
meet_turned Off Off = refl
meet_turned Off On = refl
meet_turned Off Unsure = refl
meet_turned On Off = refl
meet_turned On On = refl
meet_turned On Unsure = refl
meet_turned Unsure Off = refl
meet_turned Unsure On = refl
meet_turned Unsure Unsure = refl

both_turned : (x y : Bool) → (x && y) ≡ (y && x)
both_turned true true = refl
both_turned true false = refl
both_turned false true = refl
both_turned false false = refl

pub told_turned : (pair : Pair) (k : Known Tri Outcome) → both_told (turned pair) k ≡ both_told pair k
told_turned pair k = meet_turned (told (point_of pair.second) k) (told (point_of pair.first) k)

pub turned_told : (p : Drawing) (pair : Pair) (k : Known Tri Outcome) → IsToldApart p pair k → IsToldApart p (turned pair) k
turned_told p pair k told = told_turned pair (after_known three outcomes (diagram_of p) 0 [] k) ∙ told

on_turned : (h : Held) (pair : Pair) → are_both_on h (turned pair) ≡ are_both_on h pair
on_turned h pair = both_turned (is_on_in (point_of pair.second) h) (is_on_in (point_of pair.first) h)

-- ---- what isn't removed

pub not_true : {b : Bool} → b ≡ false → b ≡ true → ⊥
not_true off on = cc

pub not_told : (p : Drawing) (k l : Known Tri Outcome) (pair target : Pair) (stays : Bool) → l ≡ k → pair ≡ target → IsToldApart p pair k
    → (IsToldApart p target l → IsTrue stays) → stays ≡ false → ⊥
not_told p k l pair target stays same is told tells off =
    not_true off (tells (subst (λ (m : Known Tri Outcome). IsToldApart p target m) (sym same) (subst (λ (x : Pair). IsToldApart p x k) is told)))

-- ---- symbols in order

-- One more is in the list.
pub pushed : (P : ℕ → Type 0) (make : ℕ → Symbol) (xs ys : List Symbol) (n : ℕ) → ys ≡ xs ++ (make n ∷ []) → ((i : ℕ) → i < n → P i → Contains xs (make i))
    → (i : ℕ) → i < n + 1 → P i → Contains ys (make i)
pushed P make xs ys n is all i below h = subst (λ zs. Contains zs (make i)) (sym is) (elim (cases_order i n) [
  | inl e ↦ subst (λ k. Contains (xs ++ (make n ∷ [])) (make k)) (sym e) (Contains-push xs (make n))
  | inr (inl l) ↦ Contains-append_left xs (make n ∷ []) (make i) (all i l h)
  | inr (inr l) ↦ absurd (omega (arith, l, below))
])

-- One more needn't be.
pub passed_by : (P : ℕ → Type 0) (make : ℕ → Symbol) (xs ys : List Symbol) (n : ℕ) → ys ≡ xs → (P n → ⊥) → ((i : ℕ) → i < n → P i → Contains xs (make i))
    → (i : ℕ) → i < n + 1 → P i → Contains ys (make i)
passed_by P make xs ys n is not all i below h = subst (λ zs. Contains zs (make i)) (sym is) (elim (cases_order i n) [
  | inl e ↦ absurd (not (subst P e h))
  | inr (inl l) ↦ all i l h
  | inr (inr l) ↦ absurd (omega (arith, l, below))
])

pub pushed_outside : (p : Drawing) (z : Bits) (xs ys : List Symbol) (x : Symbol) → ys ≡ xs ++ (x ∷ []) → All (IsOutside p z) xs → IsOutside p z x → All (IsOutside p z) ys
pushed_outside p z xs ys x is before here = subst (λ zs. All (IsOutside p z) zs) (sym is) (All-push (IsOutside p z) xs x before here)

pub pushed_kept : (xs ys zs : List Symbol) (x : Symbol) → ys ≡ xs ++ (x ∷ []) → All (Contains xs) zs → All (Contains ys) zs
pushed_kept xs ys zs x is kept =
    subst (λ ts. All (Contains ts) zs) (sym is) (All-weaker (Contains xs) (Contains (xs ++ (x ∷ []))) (λ y c. Contains-append_left xs (x ∷ []) y c) zs kept)

-- ---- each pair of a list

-- Of two symbols at different places one comes first.
contains_from : {X : Type 0} (xs : List X) (i j : ℕ) (x : X) → i < j → j < length xs → get_or xs j x ≡ x → Contains (drop (suc i) xs) x
contains_from xs i j x before there is =
    let long = length-drop (suc i) xs in
    let place : suc i + (j - suc i) ≡ j = omega (arith, before) in
    (j - suc i, omega (arith, before, there, long), get_or-drop (suc i) xs (j - suc i) x ∙ ap (λ n. get_or xs n x) place ∙ is)

member : (h : Held) (after : Known Tri Outcome) (symbols : List Symbol) (pairs : List Pair) (a b : Symbol) (i j : ℕ)
    → ((i : ℕ) (d : Symbol) → i < length symbols → HasEach h after pairs (get_or symbols i d) (drop (i + 1) symbols)) → i < j → j < length symbols
    → get_or symbols i a ≡ a → get_or symbols j b ≡ b → MustHave h after pairs (record { first = a; second = b })
member h after symbols pairs a b i j each before there first second =
    let row = subst (λ (x : Symbol). HasEach h after pairs x (drop (i + 1) symbols)) first (each i a (omega (arith, before, there))) in
    All-contains (λ x. MustHave h after pairs (record { first = a; second = x })) (drop (i + 1) symbols) b row
    (subst (λ n. Contains (drop n symbols) b) (sym (add-one i)) (contains_from symbols i j b before there second))

get_or_same : {X : Type 0} (xs : List X) (i j : ℕ) (a b : X) → i < length xs → i ≡ j → get_or xs i a ≡ get_or xs j b
get_or_same xs i j a b h e = get_or_default xs i a b h ∙ ap (λ n. get_or xs n b) e

-- Each pair of two symbols that is to be listed is listed, in one order or the other.
pub each_pair : (h : Held) (after : Known Tri Outcome) (symbols : List Symbol) (pairs : List Pair)
    → ((i : ℕ) (d : Symbol) → i < length symbols → HasEach h after pairs (get_or symbols i d) (drop (i + 1) symbols))
    → (pair : Pair) → Contains symbols pair.first → Contains symbols pair.second → (pair.first ≡ pair.second → ⊥) → are_both_on h pair ≡ false
    → both_told pair after ≡ three_known false → Contains pairs pair ⊎ Contains pairs (turned pair)
each_pair h after symbols pairs each pair (i, li, ei) (j, lj, ej) differ off told = elim (cases_order i j) [
  | inl e ↦ absurd (differ (sym ei ∙ get_or_same symbols i j pair.first pair.second li e ∙ ej))
  | inr (inl l) ↦ inl (member h after symbols pairs pair.first pair.second i j each l lj ei ej off told)
  | inr (inr l) ↦ inr (member h after symbols pairs pair.second pair.first j i each l li ej ei (on_turned h pair ∙ off) (told_turned pair after ∙ told))
]

pub told_from : (p : Drawing) (pair : Pair) (z : Bits) (k after : Known Tri Outcome) → k ≡ knowing p z → after ≡ after_known three outcomes (diagram_of p) 0 [] k
    → IsToldApart p pair (knowing p z) → both_told pair after ≡ three_known false
told_from p pair z k after is scanned told =
    subst (λ (m : Known Tri Outcome). both_told pair m ≡ three_known false) (sym scanned) (subst (λ (m : Known Tri Outcome). IsToldApart p pair m) (sym is) told)

-- Those that one scan tells to stay apart are still listed.
pub still_told : (p : Drawing) (s : Standing) (z : Bits) (before left : List Pair) (k : Known Tri Outcome) → k ≡ knowing p z → HasToldApart p s z before
    → ((pair : Pair) → IsToldApart p pair k → Contains before pair → Contains left pair) → HasToldApart p s z left
still_told p s z before left k is listed kept = λ pair outside differ off told.
    let known = subst (λ (l : Known Tri Outcome). IsToldApart p pair l) (sym is) told in
    elim (listed pair outside differ off told) [
      | inl there ↦ inl (kept pair known there)
      | inr there ↦ inr (kept (turned pair) (turned_told p pair k known) there)
    ]
