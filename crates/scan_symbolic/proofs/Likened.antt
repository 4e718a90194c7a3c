-- What a look over likenesses leaves is what is known of two scans: likenesses are kept beside the pairs of truth values, which are a
-- signal, and each side of a pair goes through a look as it does alone.
use Rattle.std.proofs.Common.{◌≡◌, ℕ, Bool, true, false, not, ◌&&◌, ◌||◌, cond, List, [], ◌∷◌, map, length, get_or, zero, suc, refl, sym, ap, ap₂, subst, ◌∙◌}
use Rattle.std.proofs.lemmas.List.{length-map}
use Rattle.diagram_program.specs.declared.gates.TheConstants.{ON, OFF, LINKS}
use Rattle.diagram_program.specs.Program.{Drawing}
use Rattle.diagram_program.specs.Steps.{steps_below}
use Rattle.scan_signals.specs.Algebra.{Algebra, LatticeLaws}
use Rattle.scan_signals.specs.Blocks.{q_of}
use Rattle.scan_cycle.specs.Cells.{Diagram, Frame}
use Rattle.scan_signals.specs.Likenesses.{AreLike, IsLike, like_choice, like_either, like_inverse, like_join, like_meet, likenesses}
use Rattle.scan_cycle.specs.Programs.{diagram_of, IsSound}
use Rattle.scan_signals.specs.Relations.{Both, IsKept}
use Rattle.scan_cycle.proofs.Kept.{BothFrames}
use Rattle.scan_cycle.specs.Rung.{Held, SameSizes}
use Rattle.scan_symbolic.specs.ByFrames.{look_frame, looked}
use Rattle.scan_symbolic.specs.Look.{after_look}
use Rattle.scan_symbolic.specs.Stepping.{all_gone, going}
use Rattle.scan_signals.specs.Truth.{plain}
use Rattle.scan_signals.specs.TruthLaws.{plain_lattice}
use Rattle.scan_signals.specs.declared.likeness.Likeness.{Likeness}
use Rattle.scan_signals.specs.declared.likeness.Likeness.TheVariants.{Off, On, Alike, Open}
use Rattle.scan_symbolic.proofs.KeptParts.{known_kept, given_kept}
use Rattle.scan_symbolic.proofs.LookLaws.{look_kept}
use Rattle.scan_symbolic.proofs.Sizes.{look_sizes}
use Rattle.scan_symbolic.proofs.Starts.{by_looks}
use Rattle.scan_symbolic.proofs.StepLooks.{by_steps}
use Rattle.scan_symbolic.proofs.StepsKept.{BothGoing, all_gone_kept}

-- ---- pairs of truth values
abbrev pub doubled : Algebra (Bool × Bool)
doubled = record {
  known = λ b. (b, b);
  join = λ x y. (x.0 || y.0, x.1 || y.1);
  meet = λ x y. (x.0 && y.0, x.1 && y.1);
  inverse = λ x. (not x.0, not x.1);
  choice = λ c x y. (cond c.0 x.0 y.0, cond c.1 x.1 y.1);
}

abbrev AnyPair : Bool × Bool → Type 0
AnyPair x = Unit {0}

abbrev both : Bool → Bool → Bool × Bool
both x y = (x, y)

pair : {x y u v : Bool} → x ≡ u → y ≡ v → both x y ≡ both u v
pair e f = ap₂ both e f

doubled_lattice : LatticeLaws (Bool × Bool) AnyPair doubled
doubled_lattice =
    let l = plain_lattice in
    record {
      known_value = λ b. tt;
      join_value = λ x y vx vy. tt;
      meet_value = λ x y vx vy. tt;
      inverse_value = λ x vx. tt;
      choice_value = λ c x y vc vx vy. tt;
      join_assoc = λ x y z vx vy vz. pair (l.join_assoc x.0 y.0 z.0 tt tt tt) (l.join_assoc x.1 y.1 z.1 tt tt tt);
      meet_assoc = λ x y z vx vy vz. pair (l.meet_assoc x.0 y.0 z.0 tt tt tt) (l.meet_assoc x.1 y.1 z.1 tt tt tt);
      join_comm = λ x y vx vy. pair (l.join_comm x.0 y.0 tt tt) (l.join_comm x.1 y.1 tt tt);
      meet_comm = λ x y vx vy. pair (l.meet_comm x.0 y.0 tt tt) (l.meet_comm x.1 y.1 tt tt);
      join_idem = λ x vx. pair (l.join_idem x.0 tt) (l.join_idem x.1 tt);
      meet_idem = λ x vx. pair (l.meet_idem x.0 tt) (l.meet_idem x.1 tt);
      join_absorbs = λ x y vx vy. pair (l.join_absorbs x.0 y.0 tt tt) (l.join_absorbs x.1 y.1 tt tt);
      meet_absorbs = λ x y vx vy. pair (l.meet_absorbs x.0 y.0 tt tt) (l.meet_absorbs x.1 y.1 tt tt);
      meet_over_join = λ x y z vx vy vz. pair (l.meet_over_join x.0 y.0 z.0 tt tt tt) (l.meet_over_join x.1 y.1 z.1 tt tt tt);
      join_over_meet = λ x y z vx vy vz. pair (l.join_over_meet x.0 y.0 z.0 tt tt tt) (l.join_over_meet x.1 y.1 z.1 tt tt tt);
      inverse_twice = λ x vx. pair (l.inverse_twice x.0 tt) (l.inverse_twice x.1 tt);
      inverse_join = λ x y vx vy. pair (l.inverse_join x.0 y.0 tt tt) (l.inverse_join x.1 y.1 tt tt);
      inverse_meet = λ x y vx vy. pair (l.inverse_meet x.0 y.0 tt tt) (l.inverse_meet x.1 y.1 tt tt);
      join_off = λ x vx. refl;
      meet_on = λ x vx. refl;
      choice_on = λ x y vx vy. refl;
      choice_off = λ x y vx vy. refl;
      choice_equal = λ c x vc vx. pair (l.choice_equal c.0 x.0 tt tt) (l.choice_equal c.1 x.1 tt tt);
    }

-- ---- what is known of a pair
abbrev pub Knows : Likeness → Bool × Bool → Type 0
Knows l w = IsLike l w.0 w.1

or_on : (x : Bool) → (x || true) ≡ true
or_on true = refl
or_on false = refl

and_off : (x : Bool) → (x && false) ≡ false
and_off true = refl
and_off false = refl

join_like : (l m : Likeness) (x y u v : Bool) → IsLike l x y → IsLike m u v → IsLike (like_join l m) (x || u) (y || v)
join_like On m x y u v h k = (ap (λ z. z || u) h.0, ap (λ z. z || v) h.1)
join_like Off m x y u v h k = subst (λ z. IsLike m (z || u) (y || v)) (sym h.0) (subst (λ z. IsLike m (false || u) (z || v)) (sym h.1) k)
join_like Alike On x y u v h k = (ap (λ z. x || z) k.0 ∙ or_on x, ap (λ z. y || z) k.1 ∙ or_on y)
join_like Alike Off x y u v h k = ap₂ (λ a b. a || b) h (k.0 ∙ sym k.1)
join_like Alike Alike x y u v h k = ap₂ (λ a b. a || b) h k
join_like Open On x y u v h k = (ap (λ z. x || z) k.0 ∙ or_on x, ap (λ z. y || z) k.1 ∙ or_on y)
join_like _ _ x y u v h k = tt

meet_like : (l m : Likeness) (x y u v : Bool) → IsLike l x y → IsLike m u v → IsLike (like_meet l m) (x && u) (y && v)
meet_like Off m x y u v h k = (ap (λ z. z && u) h.0, ap (λ z. z && v) h.1)
meet_like On m x y u v h k = subst (λ z. IsLike m (z && u) (y && v)) (sym h.0) (subst (λ z. IsLike m (true && u) (z && v)) (sym h.1) k)
meet_like Alike Off x y u v h k = (ap (λ z. x && z) k.0 ∙ and_off x, ap (λ z. y && z) k.1 ∙ and_off y)
meet_like Alike On x y u v h k = ap₂ (λ a b. a && b) h (k.0 ∙ sym k.1)
meet_like Alike Alike x y u v h k = ap₂ (λ a b. a && b) h k
meet_like Open Off x y u v h k = (ap (λ z. x && z) k.0 ∙ and_off x, ap (λ z. y && z) k.1 ∙ and_off y)
meet_like _ _ x y u v h k = tt

inverse_like : (l : Likeness) (x y : Bool) → IsLike l x y → IsLike (like_inverse l) (not x) (not y)
inverse_like Off x y h = (ap not h.0, ap not h.1)
inverse_like On x y h = (ap not h.0, ap not h.1)
inverse_like Alike x y h = ap not h
inverse_like Open x y h = tt

first_like : (l m : Likeness) (x y : Bool) → IsLike l x y → IsLike (like_either l m) x y
first_like Off On x y h = h.0 ∙ sym h.1
first_like Off Alike x y h = h.0 ∙ sym h.1
first_like Off Open x y h = tt
first_like On Off x y h = h.0 ∙ sym h.1
first_like On Alike x y h = h.0 ∙ sym h.1
first_like On Open x y h = tt
first_like Alike Open x y h = tt
first_like Open m x y h = tt
first_like _ _ x y h = h

second_like : (l m : Likeness) (x y : Bool) → IsLike m x y → IsLike (like_either l m) x y
second_like Off On x y h = h.0 ∙ sym h.1
second_like Off Open x y h = tt
second_like On Off x y h = h.0 ∙ sym h.1
second_like On Open x y h = tt
second_like Alike Off x y h = h.0 ∙ sym h.1
second_like Alike On x y h = h.0 ∙ sym h.1
second_like Alike Open x y h = tt
second_like Open m x y h = tt
second_like _ _ x y h = h

side : (d x u r : Bool) → x ≡ r → u ≡ r → cond d x u ≡ r
side true x u r e f = e
side false x u r e f = f

either_like : (l m : Likeness) (d x y u v : Bool) → IsLike l x y → IsLike m u v → IsLike (like_either l m) (cond d x u) (cond d y v)
either_like l m true x y u v h k = first_like l m x y h
either_like l m false x y u v h k = second_like l m u v k

open_like : (l m : Likeness) (d e x y u v : Bool) → IsLike l x y → IsLike m u v → IsLike (like_choice Open l m) (cond d x u) (cond e y v)
open_like Off Off d e x y u v h k = (side d x u false h.0 k.0, side e y v false h.1 k.1)
open_like On On d e x y u v h k = (side d x u true h.0 k.0, side e y v true h.1 k.1)
open_like _ _ d e x y u v h k = tt

choice_like : (c l m : Likeness) (d e x y u v : Bool) → IsLike c d e → IsLike l x y → IsLike m u v → IsLike (like_choice c l m) (cond d x u) (cond e y v)
choice_like On l m d e x y u v g h k = subst (λ z. IsLike l (cond z x u) (cond e y v)) (sym g.0) (subst (λ z. IsLike l x (cond z y v)) (sym g.1) h)
choice_like Off l m d e x y u v g h k = subst (λ z. IsLike m (cond z x u) (cond e y v)) (sym g.0) (subst (λ z. IsLike m u (cond z y v)) (sym g.1) k)
choice_like Alike l m d e x y u v g h k = subst (λ z. IsLike (like_either l m) (cond d x u) (cond z y v)) g (either_like l m d x y u v h k)
choice_like Open l m d e x y u v g h k = open_like l m d e x y u v h k

known_like : (b : Bool) → Knows (likenesses.known b) (b, b)
known_like true = (refl, refl)
known_like false = (refl, refl)

pub knows_kept : IsKept likenesses doubled Knows
knows_kept = record {
  known = known_like;
  join = λ l m w z h k. join_like l m w.0 w.1 z.0 z.1 h k;
  meet = λ l m w z h k. meet_like l m w.0 w.1 z.0 z.1 h k;
  inverse = λ l w h. inverse_like l w.0 w.1 h;
  choice = λ c l m d w z g h k. choice_like c l m d.0 d.1 w.0 w.1 z.0 z.1 g h k;
}

-- ---- the sides of a pair
abbrev pub IsFirst : Bool × Bool → Bool → Type 0
IsFirst w b = w.0 ≡ b

abbrev pub IsSecond : Bool × Bool → Bool → Type 0
IsSecond w b = w.1 ≡ b

pub first_kept : IsKept doubled plain IsFirst
first_kept = record {
  known = λ c. refl;
  join = λ x y u v r s. ap₂ (λ a b. a || b) r s;
  meet = λ x y u v r s. ap₂ (λ a b. a && b) r s;
  inverse = λ x u r. ap not r;
  choice = λ c x y d u v q r s. ap (λ a. cond a x.0 y.0) q ∙ ap₂ (λ a b. cond d a b) r s;
}

pub second_kept : IsKept doubled plain IsSecond
second_kept = record {
  known = λ c. refl;
  join = λ x y u v r s. ap₂ (λ a b. a || b) r s;
  meet = λ x y u v r s. ap₂ (λ a b. a && b) r s;
  inverse = λ x u r. ap not r;
  choice = λ c x y d u v q r s. ap (λ a. cond a x.1 y.1) q ∙ ap₂ (λ a b. cond d a b) r s;
}

-- ---- lists
abbrev pairs : List Bool → List Bool → List (Bool × Bool)
pairs [] ys = []
pairs (x ∷ xs) [] = []
pairs (x ∷ xs) (y ∷ ys) = (x, y) ∷ pairs xs ys

pairs_known : (ls : List Likeness) (xs ys : List Bool) → AreLike ls xs ys → Both Knows ls (pairs xs ys)
pairs_known [] [] [] h = tt
pairs_known (l ∷ ls) (x ∷ xs) (y ∷ ys) h = (h.0, pairs_known ls xs ys h.1)
pairs_known _ _ _ h = absurd h

pairs_first : (ls : List Likeness) (xs ys : List Bool) → AreLike ls xs ys → Both IsFirst (pairs xs ys) xs
pairs_first [] [] [] h = tt
pairs_first (l ∷ ls) (x ∷ xs) (y ∷ ys) h = (refl, pairs_first ls xs ys h.1)
pairs_first _ _ _ h = absurd h

pairs_second : (ls : List Likeness) (xs ys : List Bool) → AreLike ls xs ys → Both IsSecond (pairs xs ys) ys
pairs_second [] [] [] h = tt
pairs_second (l ∷ ls) (x ∷ xs) (y ∷ ys) h = (refl, pairs_second ls xs ys h.1)
pairs_second _ _ _ h = absurd h

sides : (ls : List Likeness) (ws : List (Bool × Bool)) (xs ys : List Bool) → Both Knows ls ws → Both IsFirst ws xs → Both IsSecond ws ys → AreLike ls xs ys
sides [] [] [] [] k f s = tt
sides [] [] [] (y ∷ ys) k f s = absurd s
sides [] [] (x ∷ xs) ys k f s = absurd f
sides [] (w ∷ ws) xs ys k f s = absurd k
sides (l ∷ ls) [] xs ys k f s = absurd k
sides (l ∷ ls) (w ∷ ws) [] ys k f s = absurd f
sides (l ∷ ls) (w ∷ ws) (x ∷ xs) [] k f s = absurd s
sides (l ∷ ls) (w ∷ ws) (x ∷ xs) (y ∷ ys) k f s =
    (subst (λ z. IsLike l z y) f.0 (subst (λ z. IsLike l w.0 z) s.0 k.0), sides ls ws xs ys k.1 f.1 s.1)

both_length : (ls : List Likeness) (ws : List (Bool × Bool)) → Both Knows ls ws → length ls ≡ length ws
both_length [] [] k = refl
both_length [] (w ∷ ws) k = absurd k
both_length (l ∷ ls) [] k = absurd k
both_length (l ∷ ls) (w ∷ ws) k = ap suc (both_length ls ws k.1)

-- a pair of which a likeness is known
abbrev some : Likeness → Bool × Bool
some On = (true, true)
some _ = (false, false)

some_known : (l : Likeness) → Knows l (some l)
some_known Off = (refl, refl)
some_known On = (refl, refl)
some_known Alike = refl
some_known Open = tt

all_some : (ls : List Likeness) → Both Knows ls (map some ls)
all_some [] = tt
all_some (l ∷ ls) = (some_known l, all_some ls)

some_at : (ls : List Likeness) (i : ℕ) → get_or (map some ls) i (false, false) ≡ some (get_or ls i Off)
some_at [] i = refl
some_at (l ∷ ls) zero = refl
some_at (l ∷ ls) (suc i) = some_at ls i

some_off : (ls : List Likeness) (i : ℕ) → get_or ls i Off ≡ Off → get_or (map some ls) i (false, false) ≡ (false, false)
some_off ls i e = some_at ls i ∙ ap some e

some_on : (ls : List Likeness) (i : ℕ) → get_or ls i Off ≡ On → get_or (map some ls) i (false, false) ≡ (true, true)
some_on ls i e = some_at ls i ∙ ap some e

-- ---- the look
module _ (p : Drawing) (sound : IsSound (diagram_of p)) (now : ℕ) (h : Held) (ls : List Likeness) (begun : Frame Likeness)
    (begins : begun ≡ look_frame likenesses (diagram_of p) ls h) (ts links : List Likeness) (next : Frame Likeness)
    (long : length links ≡ LINKS) (on : get_or links ON Off ≡ On) (off : get_or links OFF Off ≡ Off)
    (count : length ts ≡ p.rungs) (none : (i : ℕ) → get_or ts i Off ≡ Off)
    (goes : next ≡ (all_gone likenesses p h.kept now (steps_below p p.rungs) (going begun ts links On)).frame) where
  abbrev d : Diagram
  d = diagram_of p

  start : (ws : List (Bool × Bool)) → Both Knows ls ws → BothFrames Knows begun (look_frame doubled d ws h)
  start ws k = subst (λ (f : Frame Likeness). BothFrames Knows f (look_frame doubled d ws h)) (sym begins) (
    given_kept likenesses doubled Knows knows_kept d.inputs ls ws k _ _ (known_kept likenesses doubled Knows knows_kept (λ v. v) h.values),
    known_kept likenesses doubled Knows knows_kept q_of h.kept.blocks,
  )

  abbrev last : List (Bool × Bool) → Frame (Bool × Bool)
  last ws = (all_gone doubled p h.kept now (steps_below p p.rungs) (going (look_frame doubled d ws h) (map some ts) (map some links) (true, true))).frame

  known_last : (ws : List (Bool × Bool)) → Both Knows ls ws → BothFrames Knows next (last ws)
  known_last ws k =
      let all : BothGoing likenesses doubled Knows knows_kept p h.kept now (going begun ts links On)
      (going (look_frame doubled d ws h) (map some ts) (map some links) (true, true)) =
      record { frame = start ws k; taken = all_some ts; links = all_some links; guard = (refl, refl) } in
      subst (λ (f : Frame Likeness). BothFrames Knows f (last ws)) (sym goes)
      (all_gone_kept likenesses doubled Knows knows_kept p h.kept now (steps_below p p.rungs) _ _ all).frame

  last_is : (ws : List (Bool × Bool)) → last ws ≡ (looked doubled d h.kept now (look_frame doubled d ws h) p.rungs).frame
  last_is ws =
      by_steps doubled AnyPair doubled_lattice p h.kept now (look_frame doubled d ws h) (record { values = λ i. tt; ends = λ i. tt }) sound
      (map some ts) (map some links) (last ws)
      (record { long = length-map links some ∙ long; on = some_on links ON on; off = some_off links OFF off })
      (length-map ts some ∙ count) (λ i. some_off ts i (none i)) refl

  pub likened : (xs ys : List Bool) → AreLike ls xs ys → AreLike next.values (after_look plain d now xs h) (after_look plain d now ys h)
  likened xs ys like =
      let ws : List (Bool × Bool) = pairs xs ys in
      let values : (last ws).values ≡ after_look doubled d now ws h = by_looks doubled p sound.once now ws h (look_frame doubled d ws h) (last ws) refl (last_is ws) in
      sides next.values (after_look doubled d now ws h) _ _
      (subst (λ (vs : List (Bool × Bool)). Both Knows next.values vs) values (known_last ws (pairs_known ls xs ys like)).0)
      (look_kept doubled plain IsFirst first_kept d h now ws xs (pairs_first ls xs ys like))
      (look_kept doubled plain IsSecond second_kept d h now ws ys (pairs_second ls xs ys like))

  pub likened_sizes : SameSizes next h
  likened_sizes =
      let ws : List (Bool × Bool) = map some ls in
      let known = known_last ws (all_some ls) in
      let sizes = look_sizes doubled d now ws h (look_frame doubled d ws h) (last ws) p.rungs refl (last_is ws) in
      record { values = both_length next.values _ known.0 ∙ sizes.values; ends = both_length next.ends _ known.1 ∙ sizes.ends }
