-- The actions of a rung, and what they wake.
use Rattle.std.proofs.Common.{◌≡◌, ℕ, ◌+◌, ◌<◌, ◌≤◌, Bool, true, false, cond, List, [], ◌∷◌, length, map, get_or, set, zero, suc, Option, Some, None, refl, sym, ap, ◌∙◌, subst, get_or-set_other, drop, take, take_all, ◌≢◌, nat_lt, nat_eq, arith, All, inl, inr}
use Rattle.std.proofs.lemmas.Bool.{cases_Bool, cond-true, cond-false, ltb-true, eqb-true}
use Rattle.std.proofs.lemmas.Bool.Decides.{nat_tests}
use Rattle.std.proofs.lemmas.List.{map-set}
use Rattle.std.proofs.lemmas.List.Elements.{All-append, All-nil, All-get_or, All-more, All-pop}
use Rattle.std.proofs.lemmas.Option.{none-some}
use Rattle.diagram_program.specs.declared.geometry.TheConstants.{PLACES}
use Rattle.diagram_program.specs.declared.cell.Cell.{Cell}
use Rattle.diagram_program.specs.declared.cell.Cell.TheVariants.{Empty, Contact, Coil, Block}
use Rattle.diagram_program.specs.declared.gates.Action.{Action}
use Rattle.diagram_program.specs.Program.{Drawing, cell_of}
use Rattle.diagram_program.specs.Gates.{below_of, acts, action_at, actions_before, actions_of}
use Rattle.diagram_declarations.specs.declared.kind.BlockKind.TheVariants.{Ton}
use Rattle.scan_signals.specs.declared.block.Stored.{Stored}
use Rattle.scan_signals.specs.Truth.{plain}
use Rattle.scan_signals.specs.Blocks.{q_of, step, new_block}
use Rattle.scan_cycle.specs.Cells.{Diagram, Frame}
use Rattle.scan_cycle.specs.Rung.{Held, changed, link_at, second, frame_of}
use Rattle.scan_cycle.specs.Programs.{diagram_of, IsSound}
use Rattle.scan_cycle.specs.Gating.{among, changes_of, AreLinks}
use Rattle.scan_cycle.specs.Scan.{next_rung}
use Rattle.scan_cycle.proofs.Turns.{changes_more}
use Rattle.scan_cycle.proofs.Feeders.{cell_is}
use Rattle.scan_incremental.specs.Resting.{UsedBy, AreUsers, AreWoken, AllRest, IsStill, Stays, IsWoken, marked, known_next, Rests}
use Rattle.scan_incremental.proofs.Frames.{rests_on, comes_to_rest}
use Rattle.scan_incremental.proofs.Actions.{set_quiet, undisturbed}
use Rattle.scan_cycle.proofs.GateLaws.{all_one}

-- ---- whom a cell wakes
off_on : (b : Bool) → b ≡ true → b ≡ false → ⊥
off_on true t f = cc
off_on false t f = cc

set_unmarked : (rows : List (List Bool)) (xs : List Bool) (i : ℕ) (x : Bool) (j k : ℕ) → marked rows i k ≡ false → marked rows j k ≡ true → get_or (set xs i x) j false ≡ get_or xs j false
set_unmarked rows xs i x j k off on = get_or-set_other xs i j x false (λ e. off_on (marked rows j k) on (ap (λ n. marked rows n k) e ∙ off))

q_at : (bs : List Stored) (i : ℕ) → get_or (map q_of bs) i false ≡ q_of (get_or bs i (new_block Ton))
q_at [] i = refl
q_at (b ∷ bs) zero = refl
q_at (b ∷ bs) (suc i) = q_at bs i

by_block_woken : (u : UsedBy) (h g : Held) (i : ℕ) (x : Stored) (old new : List (Option ℕ)) → g.values ≡ h.values → g.kept.blocks ≡ set h.kept.blocks i x
    → IsWoken u.outputs i old new → AreWoken u h g old new
by_block_woken u h g i x old new v b w = record {
  known = λ j n k. (w j n k).0;
  variables = λ j n m k on. ap (λ xs. get_or xs m false) v;
  outputs = λ j n m k on.
      ap (λ bs. get_or (map q_of bs) m false) b ∙ ap (λ xs. get_or xs m false) (map-set q_of h.kept.blocks i x)
      ∙ set_unmarked u.outputs (map q_of h.kept.blocks) i (q_of x) m j (w j n k).1 on;
}

by_block_quiet : (u : UsedBy) (h g : Held) (i : ℕ) (x : Stored) (next : List (Option ℕ)) → g.values ≡ h.values → g.kept.blocks ≡ set h.kept.blocks i x
    → q_of (get_or g.kept.blocks i (new_block Ton)) ≡ q_of (get_or h.kept.blocks i (new_block Ton)) → AreWoken u h g next next
by_block_quiet u h g i x next v b e = record {
  known = λ j n k. k;
  variables = λ j n m k on. ap (λ xs. get_or xs m false) v;
  outputs = λ j n m k on.
      let moved : map q_of g.kept.blocks ≡ set (map q_of h.kept.blocks) i (q_of x) = ap (map q_of) b ∙ map-set q_of h.kept.blocks i x in
      ap (λ xs. get_or xs m false) moved
      ∙ set_quiet (map q_of h.kept.blocks) i (q_of x) m false
      (sym (ap (λ xs. get_or xs i false) moved) ∙ q_at g.kept.blocks i ∙ e ∙ sym (q_at h.kept.blocks i));
}

block_values : (d : Diagram) (now : ℕ) (start : Frame Bool) (c : Cell) (i : ℕ) (x y : Bool) (h : Held) → c ≡ Block i
    → ((changed d now start c x y h).values ≡ h.values) × ((changed d now start c x y h).kept.blocks ≡ set h.kept.blocks i (step (d.kind i) (d.preset i) (get_or h.kept.blocks i (new_block Ton)) x y now))
block_values d now start (Block inst) i x y h e =
    let same : inst ≡ i = cc in
    (refl, ap (λ n. set h.kept.blocks n (step (d.kind n) (d.preset n) (get_or h.kept.blocks n (new_block Ton)) x y now)) same)
block_values d now start _ i x y h e = absurd cc

module _ (u : UsedBy) (d : Diagram) (now : ℕ) (start : Frame Bool) (c : Cell) (i : ℕ) (x y : Bool) (h g : Held) (is : c ≡ Block i) (e : g ≡ changed d now start c x y h) where
  pub block_woken : (old new : List (Option ℕ)) → IsWoken u.outputs i old new → AreWoken u h g old new
  block_woken old new w =
      let b = block_values d now start c i x y h is in
      by_block_woken u h g i _ old new (ap (λ (z : Held). z.values) e ∙ b.0) (ap (λ (z : Held). z.kept.blocks) e ∙ b.1) w

  pub block_quiet : (next : List (Option ℕ)) → q_of (get_or g.kept.blocks i (new_block Ton)) ≡ q_of (get_or h.kept.blocks i (new_block Ton)) → AreWoken u h g next next
  block_quiet next q =
      let b = block_values d now start c i x y h is in
      by_block_quiet u h g i _ next (ap (λ (z : Held). z.values) e ∙ b.0) (ap (λ (z : Held). z.kept.blocks) e ∙ b.1) q

-- ---- the rungs that rest, from action to action
no_more : (o : Option ℕ) → ((n : ℕ) → o ≡ Some n → ⊥) → o ≡ None
no_more None h = refl
no_more (Some n) h = absurd (h n refl)

pub still_awake : (u : UsedBy) (h g : Held) (old new : List (Option ℕ)) (j : ℕ) → AreWoken u h g old new → known_next old j ≡ None → known_next new j ≡ None
still_awake u h g old new j w off = no_more (known_next new j) (λ n on. none-some _ (sym off ∙ w.known j n on))

pub still_rest : (d : Diagram) → IsSound d → (u : UsedBy) → AreUsers d u → (now j e : ℕ) (start : Frame Bool) (c : Cell) (x y : Bool) (h g : Held) (old new : List (Option ℕ))
    → c ≡ d.cell j e → g ≡ changed d now start c x y h → AreWoken u h g old new → known_next old j ≡ None → AllRest d now h old → AllRest d now g new
still_rest d sound u users now j e start c x y h g old new at is w off r = record {
  within = λ i n k. r.within i n (w.known i n k);
  rests = λ i n k.
      rests_on d sound u users now i n (r.within i n (w.known i n k)) h g
      (undisturbed d sound.once u now j e i start x y h g (is ∙ ap (λ (z : Cell). changed d now start z x y h) at)
      (λ same. none-some _ (sym off ∙ sym (ap (known_next old) same) ∙ w.known i n k)) (λ v. w.variables i n v k) (λ v. w.outputs i n v k))
      (r.rests i n (w.known i n k));
}

-- ---- what holds of each action
pub all_more : (P : Action → Type 0) (xs ys : List Action) → ys ≡ xs → (i : ℕ) (a : Action) → i < length ys → All P (take i xs) → P (get_or ys i a) → All P (take (i + 1) xs)
all_more P xs ys e i a lt all here =
    subst (λ (zs : List Action). All P (take (i + 1) zs)) e (All-more P ys i a lt (subst (λ (zs : List Action). All P (take i zs)) (sym e) all) here)

pub all_taken : (P : Action → Type 0) (xs ys : List Action) → ys ≡ xs → (i : ℕ) → length ys ≤ i → All P (take i xs) → All P xs
all_taken P xs ys e i le all = subst (λ (zs : List Action). All P zs) (take_all i xs (subst (λ (zs : List Action). length zs ≤ i) e le)) all

-- ---- the actions of a rung are those of its cells
abbrev pub IsFrom : Drawing → ℕ → Action → Type 0
IsFrom p j a = (e : ℕ) × (a.cell ≡ (diagram_of p).cell j e)

from_before : (p : Drawing) (j n : ℕ) → n ≤ PLACES → All (IsFrom p j) (actions_before p j n)
unfolding actions_before
from_before p j zero h = All-nil _
from_before p j (suc n) h = elim (cases_Bool (acts (cell_of p j n))) [
  | inl t ↦ subst (λ (xs : List Action). All (IsFrom p j) xs) (sym (cond-true (acts (cell_of p j n)) _ _ t))
      (All-append (IsFrom p j) (actions_before p j n) _ (from_before p j n (omega arith)) (all_one (IsFrom p j) (action_at p j n) (n, sym (cell_is p j n (omega arith)))))
  | inr t ↦ subst (λ (xs : List Action). All (IsFrom p j) xs) (sym (cond-false (acts (cell_of p j n)) _ _ t)) (from_before p j n (omega arith))
]

pub from_rung : (p : Drawing) (j : ℕ) → All (IsFrom p j) (actions_of p j)
unfolding actions_of
from_rung p j = from_before p j PLACES (omega arith)

-- one action of a rung
pub acted : (p : Drawing) → IsSound (diagram_of p) → (u : UsedBy) → AreUsers (diagram_of p) u → (now j : ℕ) (start : Frame Bool) (links : List Bool) (xs : List Action)
    → xs ≡ actions_of p j → (i : ℕ) (a : Action) → i < length xs → (h g : Held) (old new : List (Option ℕ))
    → g ≡ changed (diagram_of p) now start (get_or xs i a).cell (among plain links (get_or xs i a).left) (among plain links (get_or xs i a).below) h
    → AreWoken u h g old new → known_next old j ≡ None → AllRest (diagram_of p) now h old
    → (changes_of (diagram_of p) now start links (drop (i + 1) (actions_of p j)) g ≡ changes_of (diagram_of p) now start links (drop i (actions_of p j)) h)
    × (known_next new j ≡ None) × AllRest (diagram_of p) now g new
acted p sound u users now j start links xs is i a lt h g old new e w off r =
    let from : IsFrom p j (get_or xs i a) = All-get_or (IsFrom p j) xs i a lt (subst (λ (ys : List Action). All (IsFrom p j) ys) (sym is) (from_rung p j)) in (
      subst (λ (ys : List Action). changes_of (diagram_of p) now start links (drop (i + 1) ys) g ≡ changes_of (diagram_of p) now start links (drop i ys) h) is
          (changes_more (diagram_of p) now start links h g xs i a lt e),
      still_awake u h g old new j w off,
      still_rest (diagram_of p) sound u users now j from.0 start (get_or xs i a).cell _ _ h g old new from.1 e w off r,
    )

-- ---- where each action leaves all as it is, each cell does
is_last : (e n : ℕ) → e < suc n → nat_lt e n ≡ false → n ≡ e
is_last e n lt h = grind (arith, nat_tests)

is_apart : (i j : ℕ) → nat_eq i j ≡ false → i ≢ j
is_apart i j h = grind (arith, nat_tests)

cell_back : (p : Drawing) (j e : ℕ) → cond (nat_lt e PLACES) (cell_of p j e) Empty ≡ (diagram_of p).cell j e
unfolding diagram_of
cell_back p j e = refl

module _ (p : Drawing) (now j : ℕ) (h : Held) (links : List Bool) (are : AreLinks plain p h.kept now j (frame_of h) links) where
  abbrev IsStillAt : Cell → ℕ → Type 0
  IsStillAt c e = (later : ℕ) → now ≤ later → Stays (diagram_of p) later (frame_of h) h c (link_at (diagram_of p) now j h e) (second plain (diagram_of p) j (link_at (diagram_of p) now j h) e)

  no_act : (c : Cell) (e : ℕ) → acts c ≡ false → IsStillAt c e
  no_act (Contact mode operand (Some memory)) e t = absurd cc
  no_act (Coil mode var memory) e t = absurd cc
  no_act (Block inst) e t = absurd cc
  no_act _ e t = λ later le. refl

  by_action : (e : ℕ) → e < PLACES → IsStill (diagram_of p) now (frame_of h) links h (action_at p j e) → IsStillAt (cell_of p j e) e
  by_action e lt s = λ later le.
      subst (λ y. Stays (diagram_of p) later (frame_of h) h (cell_of p j e) (link_at (diagram_of p) now j h e) y) (are.below e lt)
      (subst (λ x. Stays (diagram_of p) later (frame_of h) h (cell_of p j e) x (among plain links (below_of p j e))) (are.left e lt) (s later le))

  last_or_before : (n e : ℕ) → e < suc n → ((e < n) → IsStillAt (cell_of p j e) e) → IsStillAt (cell_of p j n) n → IsStillAt (cell_of p j e) e
  last_or_before n e lt before last = elim (cases_Bool (nat_lt e n)) [
    | inl t ↦ before (ltb-true e n t)
    | inr t ↦ subst (λ (m : ℕ). IsStillAt (cell_of p j m) m) (is_last e n lt t) last
  ]

  by_before : (n : ℕ) → n ≤ PLACES → All (IsStill (diagram_of p) now (frame_of h) links h) (actions_before p j n) → (e : ℕ) → e < n → IsStillAt (cell_of p j e) e
  unfolding actions_before
  by_before zero le all e lt = absurd (omega arith)
  by_before (suc n) le all e lt = elim (cases_Bool (acts (cell_of p j n))) [
    | inl t ↦
        let Q = IsStill (diagram_of p) now (frame_of h) links h in
        let parts : All Q (actions_before p j n) × Q (action_at p j n) =
        All-pop Q _ (actions_before p j n) (Some (action_at p j n)) (cond-true (acts (cell_of p j n)) _ _ t) all in
        last_or_before n e lt (by_before n (omega arith) parts.0 e) (by_action n (omega arith) parts.1)
    | inr t ↦
        let rest = subst (λ (xs : List Action). All (IsStill (diagram_of p) now (frame_of h) links h) xs) (cond-false (acts (cell_of p j n)) _ _ t) all in
        last_or_before n e lt (by_before n (omega arith) rest e) (no_act (cell_of p j n) n t)
  ]

  cell_either : (e : ℕ) (b : Bool) → nat_lt e PLACES ≡ b → ((e < PLACES) → IsStillAt (cell_of p j e) e) → IsStillAt (cond b (cell_of p j e) Empty) e
  cell_either e true t h = h (ltb-true e PLACES t)
  cell_either e false t h = λ later le. refl

  pub all_still : All (IsStill (diagram_of p) now (frame_of h) links h) (actions_of p j) → (e : ℕ) → IsStillAt ((diagram_of p).cell j e) e
  unfolding actions_of
  all_still all e =
      subst (λ (c : Cell). IsStillAt c e) (cell_back p j e) (cell_either e (nat_lt e PLACES) refl (by_before PLACES (omega arith) all e))

-- where each action leaves all as it is, the rung is evaluated to what it was, and rests
pub at_rest : (p : Drawing) (now j : ℕ) (h : Held) (start : Frame Bool) (links : List Bool) → start ≡ frame_of h → AreLinks plain p h.kept now j start links
    → All (IsStill (diagram_of p) now start links h) (actions_of p j) → Rests (diagram_of p) now h j (next_rung (diagram_of p) now j h)
at_rest p now j h start links s are all =
    let are' : AreLinks plain p h.kept now j (frame_of h) links = subst (λ (f : Frame Bool). AreLinks plain p h.kept now j f links) s are in
    let all' : All (IsStill (diagram_of p) now (frame_of h) links h) (actions_of p j) = subst (λ (f : Frame Bool). All (IsStill (diagram_of p) now f links h) (actions_of p j)) s all in
    comes_to_rest (diagram_of p) now j h (all_still p now j h links are' all')

set_read : (xs : List (Option ℕ)) (j n m : ℕ) → get_or (set xs j (Some n)) j None ≡ Some m → n ≡ m
set_read [] j n m e = absurd (none-some _ e)
set_read (x ∷ xs) zero n m e = cc
set_read (x ∷ xs) (suc j) n m e = set_read xs j n m e

pub put_to_rest : (d : Diagram) (now : ℕ) (h : Held) (j n : ℕ) (next : List (Option ℕ)) → j < d.rungs → Rests d now h j n → AllRest d now h next → AllRest d now h (set next j (Some n))
put_to_rest d now h j n next lt r all = record {
  within = λ i m k. elim (cases_Bool (nat_eq i j)) [
    | inl t ↦ subst (λ (x : ℕ). x < d.rungs) (sym (eqb-true i j t)) lt
    | inr t ↦ all.within i m (sym (get_or-set_other next j i (Some n) None (is_apart i j t)) ∙ k)
  ];
  rests = λ i m k. elim (cases_Bool (nat_eq i j)) [
    | inl t ↦ subst (λ (x : ℕ). Rests d now h x m) (sym (eqb-true i j t)) (subst (λ (x : ℕ). Rests d now h j x) (set_read next j n m (sym (ap (known_next (set next j (Some n))) (eqb-true i j t)) ∙ k)) r)
    | inr t ↦ all.rests i m (sym (get_or-set_other next j i (Some n) None (is_apart i j t)) ∙ k)
  ];
}
