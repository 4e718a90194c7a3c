-- What is known where two states agree allows each two of them.
use Rattle.std.proofs.Common.{◌≡◌, ◌∙◌, ◌+◌, ◌<◌, ◌≤◌, add-one, ap, refl, subst, sym, ℕ, Bool, true, false, List, [], ◌∷◌, Some, drop, drop-cons, get_or, length, map, slice_get, suc}
use Rattle.std.proofs.Math.ListN.{drop_of_length-le}
use Rattle.diagram_program.specs.Program.{Drawing}
use Rattle.scan_cycle.specs.Rung.{Held}
use Rattle.scan_signals.specs.Blocks.{q_of}
use Rattle.scan_signals.specs.Three.{three_allows, three_known}
use Rattle.scan_signals.specs.declared.tri.Tri.{Tri}
use Rattle.scan_signals.specs.declared.tri.Tri.TheVariants.{Off, On, Unsure}
use Rattle.scan_symbolic.proofs.Lists.{map_same}
use Rattle.scan_symbolic.specs.KnownScan.{Known}
use Rattle.invariant_cases.proofs.Settling.{both_at, pin_allows, told_output, told_value}
use Rattle.invariant_cases.specs.Allowing.{Allows, AllowsState, is_on_in}
use Rattle.invariant_cases.specs.Cases.{pinned, told}
use Rattle.invariant_cases.specs.declared.outcome.Outcome.{Outcome}
use Rattle.invariant_cases.specs.declared.point.Point.{Point}
use Rattle.invariant_cases.specs.declared.point.Point.TheVariants.{Memory}
use Rattle.diff_matching.specs.declared.matching.Pair.{Pair}
use Rattle.diff_matching.specs.Matching.{Agree, Matching}
use Rattle.diff_meaning.specs.Verdicts.{pairs_of}
use Rattle.diff_meaning.specs.declared.verdict.PairSort.{PairSort}
use Rattle.diff_meaning.specs.declared.verdict.PairSort.TheVariants.{Variables, Instances, Memories}
use Rattle.diff_verdicts.specs.Carrying.{Knowns, carried, carried_all, known_also, point_in}

-- Each program's state is allowed.
pub record AllowBoth (p q : Drawing) (moment : ℕ) (k : Knowns) (h g : Held) : Type 0 where
  pub of_old : AllowsState p moment k.of_old h
  pub of_new : AllowsState q moment k.of_new g

is_known : (x : Tri) (b value : Bool) → three_allows x 0 b → x ≡ three_known value → b ≡ value
is_known x b true h e = subst (λ (y : Tri). three_allows y 0 b) e h
is_known x b false h e = subst (λ (y : Tri). three_allows y 0 b) e h

told_memory : (p : Drawing) (now : ℕ) (k : Known Tri Outcome) (h : Held) → AllowsState p now k h → (i : ℕ) (value : Bool) → told (Memory i) k ≡ three_known value
    → get_or h.kept.memories i false ≡ value
unfolding told
told_memory p now k h both i value e =
    subst (λ (vs : List Bool). get_or vs i false ≡ value) (map_same h.kept.memories)
    (is_known _ _ value ((both_at Allows k.memories (map (λ v. v) h.kept.memories) both.memories Off false (tt, λ _. refl) i).1 refl) e)

told_is : (p : Drawing) (now : ℕ) (k : Known Tri Outcome) (h : Held) → AllowsState p now k h → (sort : PairSort) (i : ℕ) (value : Bool)
    → told (point_in sort i) k ≡ three_known value → is_on_in (point_in sort i) h ≡ value
told_is p now k h both Variables i value e = told_value p now k h both i value e
told_is p now k h both Instances i value e = told_output p now k h both i value e
told_is p now k h both Memories i value e = told_memory p now k h both i value e

-- A value that the point has may be known too.
also_allows : (p : Drawing) (now : ℕ) (k : Known Tri Outcome) (h : Held) → AllowsState p now k h → (point : Point) (t : Tri)
    → ((value : Bool) → t ≡ three_known value → is_on_in point h ≡ value) → AllowsState p now (known_also k point t) h
also_allows p now k h both point Unsure is = both
also_allows p now k h both point On is = subst (λ (b : Bool). AllowsState p now (pinned k point (three_known b)) h) (is true refl) (pin_allows p now k h both point)
also_allows p now k h both point Off is = subst (λ (b : Bool). AllowsState p now (pinned k point (three_known b)) h) (is false refl) (pin_allows p now k h both point)

module _ (p q : Drawing) (now : ℕ) (h g : Held) (sort : PairSort) where
  one : (x : Pair) (k : Knowns) → AllowBoth p q now k h g → is_on_in (point_in sort x.old) h ≡ is_on_in (point_in sort x.new) g → AllowBoth p q now (carried sort x k) h g
  one x k both same = record {
    of_old = also_allows p now k.of_old h both.of_old (point_in sort x.old) (told (point_in sort x.new) k.of_new)
        (λ value e. same ∙ told_is q now k.of_new g both.of_new sort x.new value e);
    of_new = also_allows q now k.of_new g both.of_new (point_in sort x.new) (told (point_in sort x.old) k.of_old)
        (λ value e. sym same ∙ told_is p now k.of_old h both.of_old sort x.old value e);
  }

  all_of : (pairs : List Pair) (k : Knowns) → AllowBoth p q now k h g
      → ((n : ℕ) (x : Pair) → slice_get pairs n ≡ Some x → is_on_in (point_in sort x.old) h ≡ is_on_in (point_in sort x.new) g)
      → AllowBoth p q now (carried_all sort pairs k) h g
  unfolding carried_all
  all_of [] k both same = both
  all_of (x ∷ more) k both same = all_of more (carried sort x k) (one x k both (same 0 x refl)) (λ n y e. same (suc n) y e)

agree_at : (m : Matching) (h g : Held) → Agree m h g → (sort : PairSort) (n : ℕ) (x : Pair) → slice_get (pairs_of sort m) n ≡ Some x
    → is_on_in (point_in sort x.old) h ≡ is_on_in (point_in sort x.new) g
agree_at m h g agree Variables n x e = agree.variables n x e
agree_at m h g agree Instances n x e = ap q_of (agree.instances n x e)
agree_at m h g agree Memories n x e = agree.memories n x e

-- What is carried over all pairs of a sort allows two states that agree, where what was known before allows them.
pub carried_allows : (m : Matching) (p q : Drawing) (now : ℕ) (h g : Held) → Agree m h g → (sort : PairSort) (k : Knowns) → AllowBoth p q now k h g
    → AllowBoth p q now (carried_all sort (pairs_of sort m) k) h g
carried_allows m p q now h g agree sort k both = all_of p q now h g sort (pairs_of sort m) k both (agree_at m h g agree sort)

-- ---- pair by pair
pub carried_step : (sort : PairSort) (pairs : List Pair) (n : ℕ) (d : Pair) (k : Knowns) → n < length pairs
    → carried_all sort (drop n pairs) k ≡ carried_all sort (drop (n + 1) pairs) (carried sort (get_or pairs n d) k)
unfolding carried_all
carried_step sort pairs n d k lt =
    ap (λ (xs : List Pair). carried_all sort xs k) (drop-cons pairs n d lt)
    ∙ ap (λ (i : ℕ). carried_all sort (drop i pairs) (carried sort (get_or pairs n d) k)) (sym (add-one n))

pub carried_end : (sort : PairSort) (pairs : List Pair) (n : ℕ) (k : Knowns) → length pairs ≤ n → carried_all sort (drop n pairs) k ≡ k
unfolding carried_all
carried_end sort pairs n k past = ap (λ (xs : List Pair). carried_all sort xs k) (drop_of_length-le pairs past)
