-- Private to `TimeShift`: steps, and the operations on truth values, keep what is alike up to the passage of time.
use Rattle.std.proofs.Common.{◌≡◌, ◌∙◌, inl, inr, ℕ, ◌+◌, ◌-◌, ◌≤◌, Bool, true, false, not, cond, refl, sym, ap, ap₂, subst, ◌&&◌, nat_lt, nat_le, arith, ℤ}
use Rattle.std.proofs.lemmas.Bool.Decides.{nat_tests}
use Rattle.diagram_declarations.specs.declared.kind.BlockKind.{BlockKind}
use Rattle.diagram_declarations.specs.declared.kind.BlockKind.TheVariants.{Ton, Tof, Tp}
use Rattle.scan_signals.specs.declared.block.Stored.{Stored}
use Rattle.scan_signals.specs.declared.block.Stored.TheVariants.{Timer, Counter, Bistable}
use Rattle.scan_signals.specs.Blocks.{step, q_of}
use Rattle.scan_signals.specs.Relations.{IsKept}
use Rattle.scan_signals.specs.Truth.{plain}
use Rattle.scan_cycle.specs.Cells.{Diagram}
use Rattle.scan_symbolic.specs.KnownScan.{plainly}
use Rattle.scan_symbolic.specs.KnownLaws.{StepsKeep}
use Rattle.scan_held.specs.Shifting.{IsLater, RunAlike}

off_on : false ≡ true → ⊥
off_on h = cc

timer_is : (l r l2 r2 q : Bool) (m : ℕ) → l2 ≡ l → r2 ≡ r → Timer l2 r2 m q ≡ Timer l r m q
timer_is l r l2 r2 q m e f = cc

counters : (l2 l : Bool) (v w : ℤ) (q2 q : Bool) → l2 ≡ l → v ≡ w → q2 ≡ q → Counter l2 v q2 ≡ Counter l w q
counters l2 l v w q2 q e f g = cc

module _ (preset moment shift now : ℕ) (le : moment ≤ now) where
  has_passed : (s t : ℕ) → RunAlike preset moment shift s t → nat_le preset (now + shift - t) ≡ nat_le preset (now - s)
  has_passed s t (inl e) = let same : now + shift - t ≡ now - s = omega (arith, e) in ap (nat_le preset) same
  has_passed s t (inr e) = passed (omega (arith, e.0, le)) (omega (arith, e.1, le))
    where
      passed : preset ≤ now - s → preset ≤ now + shift - t → nat_le preset (now + shift - t) ≡ nat_le preset (now - s)
      passed a b = grind (arith, nat_tests)

  still_runs : (s t : ℕ) → RunAlike preset moment shift s t → nat_lt (now + shift - t) preset ≡ nat_lt (now - s) preset
  still_runs s t (inl e) = let same : now + shift - t ≡ now - s = omega (arith, e) in ap (λ n. nat_lt n preset) same
  still_runs s t (inr e) = passed (omega (arith, e.0, le)) (omega (arith, e.1, le))
    where
      passed : preset ≤ now - s → preset ≤ now + shift - t → nat_lt (now + shift - t) preset ≡ nat_lt (now - s) preset
      passed a b = grind (arith, nat_tests)

  begin_now : RunAlike preset moment shift now (now + shift)
  begin_now = inl refl

  -- ---- timers
  timed_later : (on a b : Bool) (s t : ℕ) → b ≡ a → (a ≡ true → RunAlike preset moment shift s t)
      → IsLater preset moment shift (Timer on a (cond a s 0) a) (Timer on b (cond b t 0) b)
  timed_later on true true s t e h = (refl, refl, refl, h)
  timed_later on true false s t e h = absurd (off_on e)
  timed_later on false true s t e h = absurd (off_on (sym e))
  timed_later on false false s t e h = (refl, refl, refl, λ g. absurd (off_on g))

  ton_later : (l r : Bool) (s t : ℕ) (p q : Bool) (x y : Bool) → (r ≡ true → RunAlike preset moment shift s t)
      → IsLater preset moment shift (step Ton preset (Timer l r s p) x y now) (step Ton preset (Timer l r t q) x y (now + shift))
  unfolding step
  ton_later l r s t p q false y h = (refl, refl, refl, λ g. absurd (off_on g))
  ton_later l true s t p q true y h = (refl, refl, has_passed s t (h refl), λ g. h refl)
  ton_later l false s t p q true y h = (refl, refl, has_passed now (now + shift) begin_now, λ g. begin_now)

  tof_later : (l r : Bool) (s t : ℕ) (p q : Bool) (x y : Bool) → (r ≡ true → RunAlike preset moment shift s t)
      → IsLater preset moment shift (step Tof preset (Timer l r s p) x y now) (step Tof preset (Timer l r t q) x y (now + shift))
  unfolding step
  tof_later l r s t p q true y h = (refl, refl, refl, λ g. absurd (off_on g))
  tof_later true r s t p q false y h = timed_later false _ _ now (now + shift) (still_runs now (now + shift) begin_now) (λ g. begin_now)
  tof_later false true s t p q false y h = timed_later false _ _ s t (still_runs s t (h refl)) (λ g. h refl)
  tof_later false false s t p q false y h = (refl, refl, refl, λ g. absurd (off_on g))

  -- a pulse that stays, or else begins where c is ON
  pulse_later : (x c a b : Bool) (s t : ℕ) → b ≡ a → (a ≡ true → RunAlike preset moment shift s t)
      → IsLater preset moment shift (cond a (Timer x true s true) (cond c (Timer x true now true) (Timer x false 0 false)))
      (cond b (Timer x true t true) (cond c (Timer x true (now + shift) true) (Timer x false 0 false)))
  pulse_later x c true true s t e h = (refl, refl, refl, h)
  pulse_later x c true false s t e h = absurd (off_on e)
  pulse_later x c false true s t e h = absurd (off_on (sym e))
  pulse_later x true false false s t e h = (refl, refl, refl, λ g. begin_now)
  pulse_later x false false false s t e h = (refl, refl, refl, λ g. absurd (off_on g))

  tp_later : (l r : Bool) (s t : ℕ) (p q : Bool) (x y : Bool) → (r ≡ true → RunAlike preset moment shift s t)
      → IsLater preset moment shift (step Tp preset (Timer l r s p) x y now) (step Tp preset (Timer l r t q) x y (now + shift))
  unfolding step
  tp_later l true s t p q x y h = pulse_later x (x && (not l && nat_lt 0 preset)) _ _ s t (still_runs s t (h refl)) (λ g. h refl)
  tp_later l false s t p q x y h = pulse_later x (x && (not l && nat_lt 0 preset)) false false s t refl (λ g. absurd (off_on g))

  timer_later : (kind : BlockKind) (x y l r : Bool) (s t : ℕ) (p q : Bool) → q ≡ p → (r ≡ true → RunAlike preset moment shift s t)
      → IsLater preset moment shift (step kind preset (Timer l r s p) x y now) (step kind preset (Timer l r t q) x y (now + shift))
  unfolding step
  timer_later Ton x y l r s t p q e h = ton_later l r s t p q x y h
  timer_later Tof x y l r s t p q e h = tof_later l r s t p q x y h
  timer_later Tp x y l r s t p q e h = tp_later l r s t p q x y h
  timer_later _ x y l r s t p q e h = (refl, refl, e, h)

  -- ---- counters and bistables, of which the same is stored
  counter_later : (kind : BlockKind) (x y l : Bool) (cv : ℤ) (q : Bool)
      → IsLater preset moment shift (step kind preset (Counter l cv q) x y now) (step kind preset (Counter l cv q) x y (now + shift))
  unfolding step
  counter_later Ton x y l cv q = (refl, refl, refl)
  counter_later _ x y l cv q = (refl, refl, refl)

  bistable_later : (kind : BlockKind) (x y q : Bool)
      → IsLater preset moment shift (step kind preset (Bistable q) x y now) (step kind preset (Bistable q) x y (now + shift))
  unfolding step
  bistable_later Ton x y q = refl
  bistable_later _ x y q = refl

  step_later : (kind : BlockKind) (x y : Bool) (s t : Stored) → IsLater preset moment shift s t → IsLater preset moment shift (step kind preset s x y now) (step kind preset t x y (now + shift))
  step_later kind x y (Timer l r s q) (Timer l2 r2 s2 q2) h =
      subst (λ (z : Stored). IsLater preset moment shift (step kind preset (Timer l r s q) x y now) (step kind preset z x y (now + shift))) (sym (timer_is l r l2 r2 q2 s2 h.0 h.1))
      (timer_later kind x y l r s s2 q q2 h.2 h.3)
  step_later kind x y (Counter l cv q) (Counter l2 cv2 q2) h =
      subst (λ (z : Stored). IsLater preset moment shift (step kind preset (Counter l cv q) x y now) (step kind preset z x y (now + shift))) (sym (counters l2 l cv2 cv q2 q h.0 h.1 h.2))
      (counter_later kind x y l cv q)
  step_later kind x y (Bistable q) (Bistable q2) h =
      subst (λ (z : Bool). IsLater preset moment shift (step kind preset (Bistable q) x y now) (step kind preset (Bistable z) x y (now + shift))) (sym h)
      (bistable_later kind x y q)
  step_later kind x y _ _ h = absurd h

choice_later : (preset moment shift : ℕ) (g h : Bool) (b e c f : Stored) → g ≡ h → IsLater preset moment shift b c → IsLater preset moment shift e f
    → IsLater preset moment shift (cond g b e) (cond h c f)
choice_later preset moment shift true true b e c f k p q = p
choice_later preset moment shift true false b e c f k p q = absurd (off_on (sym k))
choice_later preset moment shift false true b e c f k p q = absurd (off_on k)
choice_later preset moment shift false false b e c f k p q = q

q_later : (preset moment shift : ℕ) (b c : Stored) → IsLater preset moment shift b c → q_of b ≡ q_of c
q_later preset moment shift (Timer l r s q) (Timer l2 r2 s2 q2) h = sym h.2
q_later preset moment shift (Counter l cv q) (Counter l2 cv2 q2) h = sym h.2
q_later preset moment shift (Bistable q) (Bistable q2) h = sym h
q_later preset moment shift _ _ h = absurd h

pub steps_later : (d : Diagram) (moment shift wait : ℕ)
    → StepsKeep d plainly plainly (λ x y. x ≡ y) (λ inst. IsLater (d.preset inst) moment shift) (moment + wait) (moment + wait + shift)
steps_later d moment shift wait = record {
  past = λ inst. (refl, refl, refl, λ g. absurd (off_on g));
  q = λ inst b c h. q_later (d.preset inst) moment shift b c h;
  step = λ inst b c x y s t h e f.
      subst (λ (u : Bool). IsLater (d.preset inst) moment shift (step (d.kind inst) (d.preset inst) b x y (moment + wait)) (step (d.kind inst) (d.preset inst) c u t (moment + wait + shift))) e
      (subst (λ (u : Bool). IsLater (d.preset inst) moment shift (step (d.kind inst) (d.preset inst) b x y (moment + wait)) (step (d.kind inst) (d.preset inst) c x u (moment + wait + shift))) f
      (step_later (d.preset inst) moment shift (moment + wait) (omega arith) (d.kind inst) x y b c h));
  choice = λ inst g h b e c f k p q. choice_later (d.preset inst) moment shift g h b e c f k p q;
}

-- equal truth values stay equal
pub plain_same : IsKept plain plain (λ x y. x ≡ y)
plain_same = record {
  known = λ c. refl;
  join = λ x y u v r s. ap₂ plain.join r s;
  meet = λ x y u v r s. ap₂ plain.meet r s;
  inverse = λ x u r. ap plain.inverse r;
  choice = λ c x y d u v q r s. ap₂ (λ p z. plain.choice p z y) q r ∙ ap (plain.choice d u) s;
}
