-- Lists of pairs to which some are added, and from which some are removed.
use Rattle.std.proofs.Common.{◌≡◌, ◌∙◌, ◌<◌, ◌≤◌, ◌+◌, ◌⊎◌, ◌++◌, ◌∷◌, [], ap, arith, inl, inr, ℕ, false, List, get_or, length, take, drop, zero, suc, refl, sym, subst}
use Rattle.std.specs.Prelude.{All, Contains, remove}
use Rattle.std.proofs.lemmas.List.{take_all, take-append-drop}
use Rattle.std.proofs.lemmas.List.Elements.{Contains-append_cases, Contains-append_left, Contains-append_right, All-append, All-contains, All-contains_itself, All-drop, All-more, All-push, All-take, All-weaker}
use Rattle.std.proofs.Math.Seq.{drop-cons}
use Rattle.diagram_declarations.specs.declared.decls.Symbol.{Symbol}
use Rattle.diagram_program.specs.Program.{Drawing}
use Rattle.scan_cycle.specs.Rung.{Held}
use Rattle.scan_cycle.specs.Standing.{Standing}
use Rattle.scan_symbolic.specs.KnownScan.{Known}
use Rattle.scan_signals.specs.declared.tri.Tri.{Tri}
use Rattle.invariant_sets.specs.Never.{Bits, knowing}
use Rattle.invariant_cases.specs.declared.outcome.Outcome.{Outcome}
use Rattle.invariant_sets.specs.Beginning.{AddsPairs, HasEach, MayAdd, MustHave}
use Rattle.invariant_cases.specs.Allowing.{AreApart, are_both_on}
use Rattle.invariant_cases.specs.Assuming.{Assumed}
use Rattle.invariant_sets.specs.Pairs.{ArePairsAssuming, IsExcludedAssuming, IsOutside, IsPairOutside}
use Rattle.invariant_cases.specs.declared.pair.Pair.{Pair}

-- ---- added

pub apart_more : (h : Held) (pair : Pair) (xs ys : List Pair) → AreApart xs h → MayAdd h pair xs ys → AreApart ys h
apart_more h pair xs ys apart may = elim may [
  | inl e ↦ subst (λ (zs : List Pair). AreApart zs h) (sym e) apart
  | inr e ↦ subst (λ (zs : List Pair). AreApart zs h) (sym e.0) (All-push (λ x. are_both_on h x ≡ false) xs pair apart e.1)
]

pub added_more : (h : Held) (pair : Pair) (others : List Symbol) (old xs ys : List Pair) → AddsPairs pair.first others old xs → Contains others pair.second → MayAdd h pair xs ys
    → AddsPairs pair.first others old ys
added_more h pair others old xs ys added among may = elim may [
  | inl e ↦ subst (AddsPairs pair.first others old) (sym e) added
  | inr e ↦ subst (AddsPairs pair.first others old) (sym e.0) (All-push (λ x. Contains old x ⊎ ((x.first ≡ pair.first) × Contains others x.second)) xs pair added (inr (refl, among)))
]

pub none_added : (first : Symbol) (others : List Symbol) (old : List Pair) → AddsPairs first others old old
none_added first others old = All-weaker (Contains old) (λ x. Contains old x ⊎ ((x.first ≡ first) × Contains others x.second)) (λ x h. inl h) old (All-contains_itself old)

pub outside_more : (p : Drawing) (z : Bits) (first : Symbol) (others : List Symbol) (old new : List Pair) → IsOutside p z first → All (IsOutside p z) others
    → All (IsPairOutside p z) old → AddsPairs first others old new → All (IsPairOutside p z) new
outside_more p z first others old new one all before added =
    All-weaker (λ x. Contains old x ⊎ ((x.first ≡ first) × Contains others x.second)) (IsPairOutside p z)
    (λ x may. elim may [
      | inl h ↦ All-contains (IsPairOutside p z) old x before h
      | inr h ↦ record { first = subst (IsOutside p z) (sym h.0) one; second = All-contains (IsOutside p z) others x.second all h.1 }
    ]) new added

-- ---- what is in a list that grows

pub grown : (h : Held) (pair : Pair) (xs ys : List Pair) → MayAdd h pair xs ys → All (Contains ys) xs
grown h pair xs ys may = elim may [
  | inl e ↦ subst (λ (zs : List Pair). All (Contains zs) xs) (sym e) (All-contains_itself xs)
  | inr e ↦ subst (λ (zs : List Pair). All (Contains zs) xs) (sym e.0)
      (All-weaker (Contains xs) (Contains (xs ++ pair ∷ [])) (λ x h. Contains-append_left xs (pair ∷ []) x h) xs (All-contains_itself xs))
]

pub grown_on : (xs ys zs : List Pair) → All (Contains ys) xs → All (Contains zs) ys → All (Contains zs) xs
grown_on xs ys zs h k = All-weaker (Contains ys) (Contains zs) (λ x c. All-contains (Contains zs) ys x k c) xs h

pub each_on : (h : Held) (after : Known Tri Outcome) (xs ys : List Pair) (first : Symbol) (others : List Symbol) → All (Contains ys) xs → HasEach h after xs first others
    → HasEach h after ys first others
each_on h after xs ys first others more each =
    All-weaker (λ second. MustHave h after xs (record { first = first; second = second })) (λ second. MustHave h after ys (record { first = first; second = second }))
    (λ second must off told. All-contains (Contains ys) xs (record { first = first; second = second }) more (must off told)) others each

-- ---- removed

contains_tail : {X : Type 0} (y : X) (ys : List X) (x : X) → Contains (y ∷ ys) x → (x ≡ y → ⊥) → Contains ys x
contains_tail y ys x (zero, l, e) n = absurd (n (sym e))
contains_tail y ys x (suc k, l, e) n = (k, omega (arith, l), e)

-- What isn't removed stays.
pub still_there : {X : Type 0} (xs : List X) (i : ℕ) (x d : X) → i < length xs → Contains xs x → (x ≡ get_or xs i d → ⊥) → Contains (remove xs i) x
still_there xs i x d h c n =
    let split : xs ≡ take i xs ++ (get_or xs i d ∷ drop (suc i) xs) = sym (take-append-drop i xs) ∙ ap (λ ys. take i xs ++ ys) (drop-cons xs i d h) in
    elim (Contains-append_cases (take i xs) (get_or xs i d ∷ drop (suc i) xs) x (subst (λ ys. Contains ys x) split c)) as (λ _. Contains (remove xs i) x) [
      | inl k ↦ Contains-append_left (take i xs) (drop (suc i) xs) x k
      | inr k ↦ Contains-append_right (take i xs) (drop (suc i) xs) x (contains_tail (get_or xs i d) (drop (suc i) xs) x k n)
    ]

pub fewer : (all xs ys : List Pair) (i : ℕ) → All (Contains all) xs → ys ≡ remove xs i → All (Contains all) ys
fewer all xs ys i h e =
    subst (All (Contains all)) (sym e)
    (All-append (Contains all) (take i xs) (drop (suc i) xs) (All-take (Contains all) i xs h) (All-drop (Contains all) (suc i) xs h))

pub within_both : (all xs ys : List Pair) → All (Contains all) xs → All (Contains xs) ys → All (Contains all) ys
within_both all xs ys h g = All-weaker (Contains xs) (Contains all) (λ x c. All-contains (Contains all) xs x h c) ys g

pub one_excluded : (p : Drawing) (a : Assumed) (xs ys : List Pair) (k l : Known Tri Outcome) (i : ℕ) (pair : Pair) → i < length xs → All (λ x. IsExcludedAssuming p a xs x k) (take i xs)
    → IsExcludedAssuming p a ys pair l → ys ≡ xs → l ≡ k → pair ≡ get_or xs i pair → All (λ x. IsExcludedAssuming p a xs x k) (take (i + 1) xs)
one_excluded p a xs ys k l i pair h all one e f g =
    All-more (λ x. IsExcludedAssuming p a xs x k) xs i pair h all
    (subst (λ (x : Pair). IsExcludedAssuming p a xs x k) g
    (subst (λ (m : Known Tri Outcome). IsExcludedAssuming p a xs pair m) f (subst (λ (zs : List Pair). IsExcludedAssuming p a zs pair l) e one)))

pub all_excluded : (p : Drawing) (a : Assumed) (xs : List Pair) (k : Known Tri Outcome) (n : ℕ) → length xs ≤ n → All (λ x. IsExcludedAssuming p a xs x k) (take n xs) → All (λ x. IsExcludedAssuming p a xs x k) xs
all_excluded p a xs k n h all = subst (All (λ x. IsExcludedAssuming p a xs x k)) (take_all n xs h) all

pub excluded_from : (p : Drawing) (a : Assumed) (xs : List Pair) (k l : Known Tri Outcome) → k ≡ l → All (λ x. IsExcludedAssuming p a xs x k) xs → All (λ x. IsExcludedAssuming p a xs x l) xs
excluded_from p a xs k l e all = subst (λ (m : Known Tri Outcome). All (λ x. IsExcludedAssuming p a xs x m) xs) e all

pub are_pairs : (p : Drawing) (a : Assumed) (s : Standing) (z : Bits) (before left : List Pair) (k : Known Tri Outcome) → All (IsPairOutside p z) before → AreApart before s.held
    → All (Contains before) left → All (λ x. IsExcludedAssuming p a left x k) left → k ≡ knowing p z → ArePairsAssuming p a s z left
are_pairs p a s z before left k outside apart within excluded e = record {
  outside = All-weaker (Contains before) (IsPairOutside p z) (λ x h. All-contains (IsPairOutside p z) before x outside h) left within;
  apart = All-weaker (Contains before) (λ x. are_both_on s.held x ≡ false) (λ x h. All-contains (λ y. are_both_on s.held y ≡ false) before x apart h) left within;
  excluded = excluded_from p a left k (knowing p z) e excluded;
}
