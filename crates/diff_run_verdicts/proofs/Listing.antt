-- Lists of which each item is so of the symbols of its pair.
use Rattle.std.proofs.Common.{◌≡◌, ◌∙◌, ◌++◌, ◌+◌, ◌∷◌, ◌⊎◌, ℕ, List, [], Some, ap, inl, inr, length, length-append, map, refl, slice_get, subst, suc, sym, zero}
use Rattle.std.proofs.lemmas.List.{length-map}
use Rattle.std.proofs.lemmas.Option.{same_Some}
use Rattle.diagram_program.specs.Program.{Drawing}
use Rattle.diff_matching.specs.declared.matching.Pair.{Pair}
use Rattle.diff_matching.specs.Matching.{Matching}
use Rattle.diff_meaning.specs.declared.verdict.Verdict.{Verdict}
use Rattle.diff_runs.specs.Assuming.{Assumptions}
use Rattle.diff_runs.specs.declared.symbols.TwoSymbols.{TwoSymbols}
use Rattle.diff_search.specs.Differences.{IsTrueInRunsAssuming}
use Rattle.diff_search.specs.declared.difference.RunDifference.{RunDifference}
use Rattle.diff_search.specs.declared.difference.RunDifference.TheVariants.{Never, Open, Shown}
use Rattle.diff_run_verdicts.specs.RunVerdicts.{AreOfPairs, IsTrueOfRunsAssuming, pairs_of, symbols_of}
use Rattle.diff_run_verdicts.specs.Telling.{verdict_of}
use Rattle.diff_run_verdicts.specs.declared.names.NameSort.{NameSort}

-- So many items, each of which is so.
pub record AreSoBelow {T : Type 0} (Is : TwoSymbols → T → Type 0) (m : Matching) (sort : NameSort) (count : ℕ) (list : List T) : Type 0 where
  pub as_many : length list ≡ count
  pub each : (n : ℕ) (x : Pair) (item : T) → slice_get (pairs_of sort m) n ≡ Some x → slice_get list n ≡ Some item → Is (symbols_of sort x) item

-- An item of the longer list is one of the list, or the last.
of_longer : {T : Type 0} (xs : List T) (v w : T) (i : ℕ) → slice_get (xs ++ (v ∷ [])) i ≡ Some w → (slice_get xs i ≡ Some w) ⊎ ((i ≡ length xs) × (w ≡ v))
of_longer [] v w zero e = inr (refl, same_Some w v (sym e))
of_longer [] v w (suc i) e = cc
of_longer (x ∷ xs) v w zero e = inl e
of_longer (x ∷ xs) v w (suc i) e = elim (of_longer xs v w i e) [
  | inl there ↦ inl there
  | inr last ↦ inr (ap suc last.0, last.1)
]

-- One item more, which is so of the next pair.
pub so_more : {T : Type 0} (Is : TwoSymbols → T → Type 0) (m : Matching) (sort : NameSort) (n : ℕ) (x : Pair) (v : T) (list : List T)
    → slice_get (pairs_of sort m) n ≡ Some x → AreSoBelow Is m sort n list → Is (symbols_of sort x) v → AreSoBelow Is m sort (n + 1) (list ++ (v ∷ []))
so_more {T} Is m sort n x v list at below here = record {
  as_many = length-append list (v ∷ []) ∙ ap (λ (k : ℕ). k + 1) below.as_many;
  each = λ i y w there got. elim (of_longer list v w i got) [
    | inl earlier ↦ below.each i y w there earlier
    | inr last ↦
        let place : i ≡ n = last.0 ∙ below.as_many in
        let same : x ≡ y = same_Some x y (sym at ∙ ap (slice_get (pairs_of sort m)) (sym place) ∙ there) in
        subst (λ (u : T). Is (symbols_of sort y) u) (sym last.1) (subst (λ (z : Pair). Is (symbols_of sort z) v) same here)
  ];
}

-- None is in an empty list.
pub so_none : {T : Type 0} (Is : TwoSymbols → T → Type 0) (m : Matching) (sort : NameSort) (list : List T) → list ≡ [] → AreSoBelow Is m sort 0 list
so_none {T} Is m sort list none = record {
  as_many = ap (λ (xs : List T). length xs) none;
  each = λ n x item there got. absurd (nothing_at n item (subst (λ (xs : List T). slice_get xs n ≡ Some item) none got));
}
  where
    nothing_at : (n : ℕ) (v : T) → slice_get {X = T} [] n ≡ Some v → ⊥
    nothing_at n v e = cc

-- What an item of a list is made of.
mapped_at : {T U : Type 0} (f : T → U) (xs : List T) (n : ℕ) (y : U) → slice_get (map f xs) n ≡ Some y → (x : T) × (slice_get xs n ≡ Some x) × (f x ≡ y)
mapped_at f [] n y e = cc
mapped_at f (x ∷ xs) zero y e = (x, refl, same_Some (f x) y e)
mapped_at f (x ∷ xs) (suc n) y e = mapped_at f xs n y e

-- Items that are made of others are so where each of those makes one that is.
pub so_of_others : {T U : Type 0} (Is : TwoSymbols → T → Type 0) (Are : TwoSymbols → U → Type 0) (f : T → U) (m : Matching) (sort : NameSort) (list : List T)
    → ((x : TwoSymbols) (item : T) → Is x item → Are x (f item)) → AreOfPairs Is m sort list → AreOfPairs Are m sort (map f list)
so_of_others {T} {U} Is Are f m sort list makes are = record {
  as_many = length-map list f ∙ are.as_many;
  each = λ n x item there got.
      let of = mapped_at f list n item got in
      subst (λ (u : U). Are (symbols_of sort x) u) of.2 (makes (symbols_of sort x) of.0 (are.each n x of.0 there of.1));
}

-- The verdict by what is true is true.
told : (a : Assumptions) (m : Matching) (p q : Drawing) (x : TwoSymbols) (found : RunDifference)
    → IsTrueInRunsAssuming a m p q x found → IsTrueOfRunsAssuming a m p q x (verdict_of found)
told a m p q x (Shown runs) is = (refl, (is.showing.scans, record { shows = is.showing.shows; assumed = is.assumed }))
told a m p q x Never is = is
told a m p q x (Open scans) is = tt

pub all_told : (a : Assumptions) (m : Matching) (p q : Drawing) (sort : NameSort) (found : List RunDifference) (verdicts : List Verdict) → verdicts ≡ map verdict_of found
    → AreOfPairs (IsTrueInRunsAssuming a m p q) m sort found → AreOfPairs (IsTrueOfRunsAssuming a m p q) m sort verdicts
all_told a m p q sort found verdicts made are =
    subst (λ (vs : List Verdict). AreOfPairs (IsTrueOfRunsAssuming a m p q) m sort vs) (sym made)
    (so_of_others (IsTrueInRunsAssuming a m p q) (IsTrueOfRunsAssuming a m p q) verdict_of m sort found (told a m p q) are)
