-- Timers that run at a later moment: of each it is open whether its time has passed, and it is split into one that has and one that hasn't.
use Rattle.std.proofs.Common.{◌≡◌, ◌∙◌, ◌≢◌, ◌⊎◌, inl, inr, ℕ, ◌+◌, ◌-◌, ◌<◌, ◌≤◌, Bool, true, false, List, [], ◌∷◌, get_or, length, set, zero, suc, refl, sym, ap, subst, nat_le, nat_lt, arith}
use Rattle.std.specs.Prelude.{slice_set}
use Rattle.std.proofs.lemmas.Bool.Decides.{nat_tests}
use Rattle.std.proofs.lemmas.List.{set-get_or}
use Rattle.diagram_declarations.specs.declared.kind.BlockKind.{BlockKind}
use Rattle.scan_signals.specs.Blocks.{new_block}
use Rattle.scan_signals.specs.declared.block.Stored.{Stored}
use Rattle.scan_signals.specs.declared.block.Stored.TheVariants as stored
use Rattle.scan_signals.specs.declared.tri.Tri.{Tri}
use Rattle.scan_signals.specs.Truth.{plain}
use Rattle.scan_cycle.specs.Cells.{Diagram}
use Rattle.scan_cycle.specs.Rung.{Held}
use Rattle.scan_symbolic.specs.KnownScan.{Known, all_known, kept_at, plainly}
use Rattle.scan_symbolic.specs.KnownLaws.{BothAt}
use Rattle.scan_symbolic.proofs.Lists.{both_each, each_both}
use Rattle.diagram_declarations.specs.declared.kind.BlockKind.TheVariants.{Ton}
use Rattle.reach_runs.specs.declared.timing.Timing.TheVariants.{AnyMoments}
use Rattle.reach_states.specs.Allowing.{AllowsBy, AllowsFrom, AllowsState, HasRun, MayBe, MayHaveRun, OpenFrom, TimePasses, is_waiting, over}
use Rattle.reach_states.specs.Untimed.{untimed}
use Rattle.reach_states.specs.UntimedLaws.{off_on}
use Rattle.reach_states.specs.declared.untimed.Untimed.{Untimed}
use Rattle.reach_states.specs.declared.untimed.Untimed.TheVariants.{Timer, Counter, Output, Anything}

-- ---- lists of what is related
pub both_length : {B C : Type 0} (Q : ℕ → B → C → Type 0) (xs : List B) (ys : List C) → BothAt Q xs ys → length xs ≡ length ys
both_length Q [] [] h = refl
both_length Q [] (y ∷ ys) h = absurd h
both_length Q (x ∷ xs) [] h = absurd h
both_length Q (x ∷ xs) (y ∷ ys) h = ap suc (both_length (λ i. Q (suc i)) xs ys h.1)

-- related so at each place where they are related otherwise
pub both_from : {B C : Type 0} (Q P : ℕ → B → C → Type 0) (xs : List B) (ys : List C) (d : B) (e : C)
    → ((i : ℕ) → i < length xs → Q i (get_or xs i d) (get_or ys i e) → P i (get_or xs i d) (get_or ys i e)) → BothAt Q xs ys → BothAt P xs ys
both_from Q P xs ys d e more h = each_both P xs ys (both_length Q xs ys h) d e (λ i lt. more i lt (both_each Q xs ys h d e i lt))

each_from : {B C : Type 0} (Q P : ℕ → B → C → Type 0) (xs : List B) (ys : List C) → ((i : ℕ) (x : B) (y : C) → Q i x y → P i x y) → BothAt Q xs ys → BothAt P xs ys
each_from Q P [] [] more h = tt
each_from Q P [] (y ∷ ys) more h = absurd h
each_from Q P (x ∷ xs) [] more h = absurd h
each_from Q P (x ∷ xs) (y ∷ ys) more h = (more 0 x y h.0, each_from (λ i. Q (suc i)) (λ i. P (suc i)) xs ys (λ i. more (suc i)) h.1)

suc_other : (i j : ℕ) → j ≢ i → suc j ≢ suc i
suc_other i j ne e = ne (omega (arith, e))

-- with another at one place
set_both : {B C : Type 0} (Q P : ℕ → B → C → Type 0) (xs : List B) (ys : List C) (i : ℕ) → i < length xs → (b : B) (e : C) → P i b (get_or ys i e)
    → ((j : ℕ) → j ≢ i → (x : B) (y : C) → Q j x y → P j x y) → BothAt Q xs ys → BothAt P (set xs i b) ys
set_both Q P [] ys i lt b e here more h = absurd (omega (arith, lt))
set_both Q P (x ∷ xs) [] i lt b e here more h = absurd h
set_both Q P (x ∷ xs) (y ∷ ys) zero lt b e here more h = (here, each_from (λ j. Q (suc j)) (λ j. P (suc j)) xs ys (λ j. more (suc j) (omega arith)) h.1)
set_both Q P (x ∷ xs) (y ∷ ys) (suc i) lt b e here more h = (
  more 0 (omega arith) x y h.0,
  set_both (λ j. Q (suc j)) (λ j. P (suc j)) xs ys i (omega (arith, lt)) b e here (λ j ne. more (suc j) (suc_other i j ne)) h.1,
)

-- ---- one instance
timer_runs : (last running : Bool) (elapsed : ℕ) (q : Bool) → running ≡ true → Timer last running elapsed q ≡ Timer last true elapsed q
timer_runs last running elapsed q e = cc

-- It may be so still, where R says less of a timer that runs than S.
pub may_be_so : (R S : ℕ → ℕ → Type 0) (kind : BlockKind) (preset : ℕ) (b : Untimed) (s : Stored)
    → ((last : Bool) (elapsed : ℕ) (q : Bool) (start : ℕ) → b ≡ Timer last true elapsed q → R elapsed start → S elapsed start)
    → MayBe R kind preset b s → MayBe S kind preset b s
may_be_so R S kind preset (Timer last running elapsed q) (stored.Timer last2 running2 start q2) more h =
    (h.0, h.1, h.2, h.3, λ e. more last elapsed q start (timer_runs last running elapsed q e) (h.4 e))
may_be_so R S kind preset (Timer last running elapsed q) (stored.Counter last2 cv2 q2) more h = absurd h
may_be_so R S kind preset (Timer last running elapsed q) (stored.Bistable q2) more h = absurd h
may_be_so R S kind preset (Counter last cv q) (stored.Timer last2 running2 start q2) more h = absurd h
may_be_so R S kind preset (Counter last cv q) (stored.Counter last2 cv2 q2) more h = h
may_be_so R S kind preset (Counter last cv q) (stored.Bistable q2) more h = absurd h
may_be_so R S kind preset (Output q) s more h = h
may_be_so R S kind preset Anything s more h = tt

passed_itself : (n : ℕ) → nat_le n n ≡ true
passed_itself n = grind (arith, nat_tests)

not_both : (b c : Bool) → (b ≡ true → c ≡ true) → c ≡ false → b ≡ c
not_both true c m e = absurd (off_on (sym e ∙ m refl))
not_both false c m e = sym e

-- Either its time hasn't passed where it isn't said to have, or it has.
split_one : (kind : BlockKind) (preset now : ℕ) (b : Untimed) (s : Stored) → MayBe (MayHaveRun now preset) kind preset b s
    → MayBe (HasRun AnyMoments now preset) kind preset b s ⊎ MayBe (HasRun AnyMoments now preset) kind preset (over preset b) s
split_one kind preset now (Timer last running elapsed q) (stored.Timer last2 running2 start q2) h = from (nat_le preset (now - start)) refl
  where
    from : (c : Bool) → nat_le preset (now - start) ≡ c
        → MayBe (HasRun AnyMoments now preset) kind preset (Timer last running elapsed q) (stored.Timer last2 running2 start q2)
        ⊎ MayBe (HasRun AnyMoments now preset) kind preset (Timer last running preset q) (stored.Timer last2 running2 start q2)
    from true e = inr (h.0, h.1, h.2, h.3, λ r. passed_itself preset ∙ sym e)
    from false e = inl (h.0, h.1, h.2, h.3, λ r. not_both (nat_le preset elapsed) (nat_le preset (now - start)) (h.4 r) e)
split_one kind preset now (Timer last running elapsed q) (stored.Counter last2 cv2 q2) h = absurd h
split_one kind preset now (Timer last running elapsed q) (stored.Bistable q2) h = absurd h
split_one kind preset now (Counter last cv q) (stored.Timer last2 running2 start q2) h = absurd h
split_one kind preset now (Counter last cv q) (stored.Counter last2 cv2 q2) h = inl h
split_one kind preset now (Counter last cv q) (stored.Bistable q2) h = absurd h
split_one kind preset now (Output q) s h = inl h
split_one kind preset now Anything s h = inl tt

-- ---- all instances
-- what is stored of them
abbrev blocks_of : Held → List Stored
blocks_of h = (all_known plain plainly h).blocks

abbrev Stands : Diagram → (ℕ → ℕ → ℕ → ℕ → Type 0) → ℕ → Untimed → Stored → Type 0
Stands d R inst = MayBe (R inst (d.preset inst)) (d.kind inst) (d.preset inst)

-- The state is allowed still, where R says less of a timer that runs than S.
pub allows_so : (d : Diagram) (R S : ℕ → ℕ → ℕ → ℕ → Type 0) (k : Known Tri Untimed) (h : Held)
    → ((i : ℕ) → i < length k.blocks → (last : Bool) (elapsed : ℕ) (q : Bool) (start : ℕ) → kept_at untimed k i ≡ Timer last true elapsed q
    → R i (d.preset i) elapsed start → S i (d.preset i) elapsed start)
    → AllowsBy R d k h → AllowsBy S d k h
allows_so d R S k h more allows = record {
  values = allows.values;
  memories = allows.memories;
  blocks = both_from (Stands d R) (Stands d S) k.blocks (blocks_of h) Anything (new_block Ton)
      (λ i lt. may_be_so (R i (d.preset i)) (S i (d.preset i)) (d.kind i) (d.preset i) (kept_at untimed k i) (get_or (blocks_of h) i (new_block Ton)) (more i lt))
      allows.blocks;
}

-- ---- those from a number on
has_passed : (preset elapsed : ℕ) → nat_lt elapsed preset ≡ false → nat_le preset elapsed ≡ true
has_passed preset elapsed h = grind (arith, nat_tests)

waits_not : (preset : ℕ) (b : Untimed) (last : Bool) (elapsed : ℕ) (q : Bool) → is_waiting preset b ≡ false → b ≡ Timer last true elapsed q
    → nat_le preset elapsed ≡ true
waits_not preset b last elapsed q h e = has_passed preset elapsed (ap (is_waiting preset) (sym e) ∙ h)

below_or_not : (i first : ℕ) → (i < first) ⊎ (first ≤ i)
below_or_not i first = grind (arith, nat_tests)

-- A timer that doesn't wait has run as long as it may have.
open_less : (now first next inst preset elapsed start : ℕ) → (first ≤ inst → inst < next → nat_le preset elapsed ≡ true)
    → OpenFrom first now inst preset elapsed start → OpenFrom next now inst preset elapsed start
open_less now first next inst preset elapsed start passed from = (
  from.0,
  λ below. elim (below_or_not inst first) [
    | inl before ↦ from.1 before
    | inr after ↦ passed after below ∙ sym (from.0 (passed after below))
  ],
)

-- Instances that don't wait are passed over.
pub none_waits : (d : Diagram) (now first next : ℕ) (k : Known Tri Untimed) (h : Held)
    → ((i : ℕ) → first ≤ i → i < next → is_waiting (d.preset i) (kept_at untimed k i) ≡ false) → AllowsFrom first d now k h → AllowsFrom next d now k h
none_waits d now first next k h none =
    allows_so d (OpenFrom first now) (OpenFrom next now) k h
    (λ i lt last elapsed q start e. open_less now first next i (d.preset i) elapsed start (λ above below. waits_not (d.preset i) (kept_at untimed k i) last elapsed q (none i above below) e))

-- An instance that doesn't wait is passed over.
pub waits_no_more : (d : Diagram) (now i : ℕ) (k : Known Tri Untimed) (h : Held) → is_waiting (d.preset i) (kept_at untimed k i) ≡ false
    → AllowsFrom i d now k h → AllowsFrom (i + 1) d now k h
waits_no_more d now i k h e =
    none_waits d now i (i + 1) k h
    (λ j above below. let same : i ≡ j = omega arith in subst (λ (n : ℕ). is_waiting (d.preset n) (kept_at untimed k n) ≡ false) same e)

-- what is kept of an instance with its time settled
settled : (d : Diagram) (now i : ℕ) (k : Known Tri Untimed) (h : Held) → i < length k.blocks → (b : Untimed)
    → Stands d (λ inst. HasRun AnyMoments now) i b (get_or (blocks_of h) i (new_block Ton))
    → AllowsFrom i d now k h → AllowsFrom (i + 1) d now (record k { blocks = set k.blocks i b }) h
settled d now i k h lt b here allows =
    let open_at = λ (first inst : ℕ). OpenFrom first now inst (d.preset inst) in record {
      values = allows.values;
      memories = allows.memories;
      blocks = set_both (Stands d (OpenFrom i now)) (Stands d (OpenFrom (i + 1) now)) k.blocks (blocks_of h) i lt b (new_block Ton)
          (may_be_so (HasRun AnyMoments now (d.preset i)) (open_at (i + 1) i) (d.kind i) (d.preset i) b (get_or (blocks_of h) i (new_block Ton))
          (λ last elapsed q start e run. (λ f. sym run ∙ f, λ below. run)) here)
          (λ j other x y. may_be_so (open_at i j) (open_at (i + 1) j) (d.kind j) (d.preset j) x y (λ last elapsed q start e from. (from.0, λ below. from.1 (omega arith))))
          allows.blocks;
    }

-- Of an instance either the time hasn't passed, or it has.
pub waits_or_not : (d : Diagram) (now i : ℕ) (k : Known Tri Untimed) (h : Held) → i < length k.blocks → AllowsFrom i d now k h
    → AllowsFrom (i + 1) d now k h ⊎ AllowsFrom (i + 1) d now (record k { blocks = slice_set k.blocks i (over (d.preset i) (kept_at untimed k i)) }) h
waits_or_not d now i k h lt allows =
    let b = kept_at untimed k i in
    let s = get_or (blocks_of h) i (new_block Ton) in
    let may = may_be_so (OpenFrom i now i (d.preset i)) (MayHaveRun now (d.preset i)) (d.kind i) (d.preset i) b s (λ last elapsed q start e from. from.0)
    (both_each (Stands d (OpenFrom i now)) k.blocks (blocks_of h) allows.blocks Anything (new_block Ton) i lt) in
    elim (split_one (d.kind i) (d.preset i) now b s may) [
      | inl here ↦
          inl (subst (λ (bs : List Untimed). AllowsFrom (i + 1) d now (record k { blocks = bs }) h) (set-get_or k.blocks i Anything) (settled d now i k h lt b here allows))
      | inr here ↦ inr (settled d now i k h lt (over (d.preset i) b) here allows)
    ]

-- Past the last instance all is settled.
pub all_settled : (d : Diagram) (now i : ℕ) (k : Known Tri Untimed) (h : Held) → length k.blocks ≤ i → AllowsFrom i d now k h → AllowsState AnyMoments d now k h
all_settled d now i k h most =
    allows_so d (OpenFrom i now) (λ inst. HasRun AnyMoments now) k h (λ j lt last elapsed q start e from. from.1 (omega arith))

-- ---- time passes
later_too : (preset now later start : ℕ) → now ≤ later → nat_le preset (now - start) ≡ true → nat_le preset (later - start) ≡ true
later_too preset now later start le h = grind (arith, nat_tests)

pub time_passes : (d : Diagram) → TimePasses d
time_passes d now later le k h =
    allows_so d (λ inst. HasRun AnyMoments now) (OpenFrom 0 later) k h
    (λ i lt last elapsed q start e run. (λ f. later_too (d.preset i) now later start le (sym run ∙ f), λ below. absurd (omega arith)))
