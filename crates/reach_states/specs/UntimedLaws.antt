-- Private to `AtMoment`: what is known of an instance after a step allows what the step leaves.
use Rattle.std.proofs.Common.{◌≡◌, ◌∙◌, ℕ, ℤ, pos, ◌+ℤ◌, ◌-ℤ◌, int_lt, int_le, int_eq, negsuc, Bool, true, false, not, cond, refl, sym, ap, subst, ◌&&◌, ◌||◌, ◌-◌, min, nat_eq, nat_le, nat_lt, arith}
use Rattle.std.proofs.lemmas.Bool.Decides.{Decides-int_eq, nat_tests}
use Rattle.std.proofs.lemmas.Int.{ints}
use Rattle.diagram_declarations.specs.declared.kind.BlockKind.{BlockKind}
use Rattle.diagram_declarations.specs.declared.kind.BlockKind.TheVariants.{Ton, Tof, Tp, Ctu, Ctd, Sr, Rs}
use Rattle.scan_signals.specs.declared.block.Stored.{Stored}
use Rattle.scan_signals.specs.declared.block.Stored.TheVariants as stored
use Rattle.scan_signals.specs.Blocks.{step, q_of, new_block}
use Rattle.scan_signals.specs.Relations.{AllowsAt}
use Rattle.scan_signals.specs.Truth.{OnePlace}
use Rattle.scan_signals.specs.Three.{AnyTri, three_known, three_join, three_meet, three_choice, three_allows}
use Rattle.scan_signals.specs.ThreeLaws.{three_allowed}
use Rattle.scan_signals.specs.declared.tri.Tri.{Tri}
use Rattle.scan_signals.specs.declared.tri.Tri.TheVariants.{Off, On, Unsure}
use Rattle.scan_cycle.specs.Cells.{Diagram}
use Rattle.scan_cycle.specs.RungByRung.{shape}
use Rattle.scan_cycle.proofs.Possible.{step_shape}
use Rattle.scan_symbolic.specs.KnownScan.{plainly}
use Rattle.scan_symbolic.specs.KnownLaws.{StepsKeep}
use Rattle.reach_runs.specs.declared.timing.Timing.{Timing}
use Rattle.reach_runs.specs.declared.timing.Timing.TheVariants.{AnyMoments, Every}
use Rattle.reach_states.specs.Allowing.{HasRun, MayBe}
use Rattle.reach_states.specs.Untimed.{agreed, by_input, capped, choice_untimed, merged, q_untimed, same_bool, same_kept, step_known, untimed, untimed_of}
use Rattle.reach_states.specs.declared.untimed.Untimed.{Untimed}
use Rattle.reach_states.specs.declared.untimed.Untimed.TheVariants.{Timer, Counter, Output, Anything}

-- What is known of a value allows it.
pub known_allows : (b : Bool) → three_allows (three_known b) 0 b
known_allows b = three_allowed.known_allows b 0 refl

agree_left : (q r : Tri) (b : Bool) → three_allows q 0 b → three_allows (three_choice Unsure q r) 0 b
agree_left On On b h = h
agree_left Off Off b h = h
agree_left Unsure r b h = h
agree_left _ _ b h = tt

agree_right : (q r : Tri) (b : Bool) → three_allows r 0 b → three_allows (three_choice Unsure q r) 0 b
agree_right On On b h = h
agree_right Off Off b h = h
agree_right Unsure Unsure b h = h
agree_right _ _ b h = tt

pub off_on : false ≡ true → ⊥
off_on h = cc

both_on : (a b : Bool) → (a && b) ≡ true → (a ≡ true) × (b ≡ true)
both_on true true h = (refl, refl)
both_on true false h = cc
both_on false b h = cc

same_bools : (a b : Bool) → same_bool a b ≡ true → a ≡ b
same_bools true true h = refl
same_bools true false h = cc
same_bools false true h = cc
same_bools false false h = refl

same_numbers : (a b : ℕ) → nat_eq a b ≡ true → a ≡ b
same_numbers a b h = grind (arith, nat_tests)

same_timer : (a b c d : Bool) (m n : ℕ) (e f : Bool) → a ≡ b → c ≡ d → m ≡ n → e ≡ f → Timer a c m e ≡ Timer b d n f
same_timer a b c d m n e f h i j k = cc

same_counter : (a b : Bool) (v w : ℤ) (e f : Bool) → a ≡ b → v ≡ w → e ≡ f → Counter a v e ≡ Counter b w f
same_counter a b v w e f h i j = cc

same_is : (x y : Untimed) → same_kept x y ≡ true → x ≡ y
same_is (Timer a c m e) (Timer b d n f) h =
    let one = both_on (same_bool a b) _ h in
    let two = both_on (same_bool c d) _ one.1 in
    let three = both_on (nat_eq m n) _ two.1 in
    same_timer a b c d m n e f (same_bools a b one.0) (same_bools c d two.0) (same_numbers m n three.0) (same_bools e f three.1)
same_is (Counter a v e) (Counter b w f) h =
    let one = both_on (same_bool a b) _ h in
    let two = both_on (int_eq v w) _ one.1 in
    same_counter a b v w e f (same_bools a b one.0) ((Decides-int_eq v w).0 two.0) (same_bools e f two.1)
same_is _ _ h = absurd (off_on h)

-- What R says of a time and a start, for a scan at the moment `now`: whether the time has passed; a timer may begin at the scan, and run on.
pub record Timely (R : ℕ → ℕ → Type 0) (preset now : ℕ) : Type 0 where
  pub passed : (e s : ℕ) → R e s → nat_le preset (e - 0) ≡ nat_le preset (now - s)
  pub begun : (e : ℕ) → R (min (e - e) preset) now
  pub stays : (e s : ℕ) → R e s → R (min (e - 0) preset) s

module _ (R : ℕ → ℕ → Type 0) (kind : BlockKind) (preset : ℕ) where
  -- ---- the Q alone
  timer_output : (last running : Bool) (elapsed : ℕ) (q : Bool) (s : Stored) → MayBe R kind preset (Timer last running elapsed q) s → MayBe R kind preset (Output (three_known q)) s
  timer_output last running elapsed q (stored.Timer last2 running2 start q2) h = (sym h.0, subst (λ (b : Bool). three_allows (three_known q) 0 b) (sym h.3) (known_allows q))
  timer_output last running elapsed q (stored.Counter last2 cv2 q2) h = absurd h
  timer_output last running elapsed q (stored.Bistable q2) h = absurd h

  counter_output : (last : Bool) (cv : ℤ) (q : Bool) (s : Stored) → MayBe R kind preset (Counter last cv q) s → MayBe R kind preset (Output (three_known q)) s
  counter_output last cv q (stored.Timer last2 running2 start q2) h = absurd h
  counter_output last cv q (stored.Counter last2 cv2 q2) h = (sym h.0, subst (λ (b : Bool). three_allows (three_known q) 0 b) (sym h.3) (known_allows q))
  counter_output last cv q (stored.Bistable q2) h = absurd h

  wider_left : (q r : Tri) (s : Stored) → MayBe R kind preset (Output q) s → MayBe R kind preset (Output (three_choice Unsure q r)) s
  wider_left q r s h = (h.0, agree_left q r (q_of s) h.1)

  wider_right : (q r : Tri) (s : Stored) → MayBe R kind preset (Output r) s → MayBe R kind preset (Output (three_choice Unsure q r)) s
  wider_right q r s h = (h.0, agree_right q r (q_of s) h.1)

  -- ---- one of two
  agreed_left : (x y : Untimed) (s : Stored) → MayBe R kind preset x s → MayBe R kind preset (agreed x y) s
  agreed_left Anything y s h = tt
  agreed_left (Timer last running elapsed q) Anything s h = tt
  agreed_left (Timer last running elapsed q) y s h = wider_left (three_known q) (q_untimed y) s (timer_output last running elapsed q s h)
  agreed_left (Counter last cv q) Anything s h = tt
  agreed_left (Counter last cv q) y s h = wider_left (three_known q) (q_untimed y) s (counter_output last cv q s h)
  agreed_left (Output q) Anything s h = tt
  agreed_left (Output q) y s h = wider_left q (q_untimed y) s h

  agreed_right : (x y : Untimed) (s : Stored) → MayBe R kind preset y s → MayBe R kind preset (agreed x y) s
  agreed_right Anything y s h = tt
  agreed_right x Anything s h = tt
  agreed_right x (Timer last running elapsed q) s h = wider_right (q_untimed x) (three_known q) s (timer_output last running elapsed q s h)
  agreed_right x (Counter last cv q) s h = wider_right (q_untimed x) (three_known q) s (counter_output last cv q s h)
  agreed_right x (Output q) s h = wider_right (q_untimed x) q s h

  merged_left : (x y : Untimed) (s : Stored) → MayBe R kind preset x s → MayBe R kind preset (merged x y) s
  merged_left x y s h = elim (same_kept x y) as (λ b. MayBe R kind preset (cond b x (agreed x y)) s) [
    | true ↦ h
    | false ↦ agreed_left x y s h
  ]

  merged_right : (x y : Untimed) (s : Stored) → MayBe R kind preset y s → MayBe R kind preset (merged x y) s
  merged_right x y s h = from (same_kept x y) refl
    where
      from : (b : Bool) → same_kept x y ≡ b → MayBe R kind preset (cond b x (agreed x y)) s
      from true e = subst (λ (z : Untimed). MayBe R kind preset z s) (sym (same_is x y e)) h
      from false e = agreed_right x y s h

  -- ---- by a condition or an input
  choice_keeps : (g : Tri) (h : Bool) (x y : Untimed) (s t : Stored) → three_allows g 0 h → MayBe R kind preset x s → MayBe R kind preset y t
      → MayBe R kind preset (choice_untimed g x y) (cond h s t)
  choice_keeps On h x y s t e p q = subst (λ (b : Bool). MayBe R kind preset x (cond b s t)) (sym e) p
  choice_keeps Off h x y s t e p q = subst (λ (b : Bool). MayBe R kind preset y (cond b s t)) (sym e) q
  choice_keeps Unsure true x y s t e p q = merged_left x y s p
  choice_keeps Unsure false x y s t e p q = merged_right x y t q

  input_keeps : (x : Tri) (f : Bool → Untimed) (g : Bool → Stored) → ((b : Bool) → MayBe R kind preset (f b) (g b)) → (b : Bool) → three_allows x 0 b
      → MayBe R kind preset (by_input x f) (g b)
  input_keeps On f g h b e = subst (λ (c : Bool). MayBe R kind preset (f true) (g c)) (sym e) (h true)
  input_keeps Off f g h b e = subst (λ (c : Bool). MayBe R kind preset (f false) (g c)) (sym e) (h false)
  input_keeps Unsure f g h true e = merged_left (f true) (f false) (g true) (h true)
  input_keeps Unsure f g h false e = merged_right (f true) (f false) (g false) (h false)

  pub q_keeps : (b : Untimed) (s : Stored) → MayBe R kind preset b s → three_allows (q_untimed b) 0 (q_of s)
  q_keeps (Timer last running elapsed q) s h = (timer_output last running elapsed q s h).1
  q_keeps (Counter last cv q) s h = (counter_output last cv q s h).1
  q_keeps (Output q) s h = h.1
  q_keeps Anything s h = tt

-- ---- steps of timers
runs_so : (preset a b : ℕ) → nat_le preset a ≡ nat_le preset b → nat_lt b preset ≡ nat_lt a preset
runs_so preset a b h = grind (arith, nat_tests)

timers : (l2 l r2 r q : Bool) (m : ℕ) → l2 ≡ l → r2 ≡ r → stored.Timer l2 r2 m q ≡ stored.Timer l r m q
timers l2 l r2 r q m e f = cc

module _ (R : ℕ → ℕ → Type 0) (preset now : ℕ) (timely : Timely R preset now) where
  just_begun : (e : ℕ) → nat_le preset (e - e) ≡ nat_le preset (now - now)
  just_begun e = let same : e - e ≡ now - now = omega arith in ap (nat_le preset) same

  -- a timer that runs where a is ON, since t on the one side and since s on the other
  timed_keeps : (kind : BlockKind) → new_block kind ≡ stored.Timer false false 0 false → (on a b : Bool) (e t s : ℕ) → b ≡ a → (a ≡ true → R (min (e - t) preset) s)
      → MayBe R kind preset (untimed_of kind preset e (stored.Timer on a (cond a t 0) a)) (stored.Timer on b (cond b s 0) b)
  timed_keeps kind timer on true true e t s same runs = (timer, refl, refl, refl, runs)
  timed_keeps kind timer on true false e t s same runs = absurd (off_on same)
  timed_keeps kind timer on false true e t s same runs = absurd (off_on (sym same))
  timed_keeps kind timer on false false e t s same runs = (timer, refl, refl, refl, λ g. absurd (off_on g))

  ton_keeps : (x y l r : Bool) (e s : ℕ) (p q : Bool) → (r ≡ true → R e s)
      → MayBe R Ton preset (untimed_of Ton preset e (step Ton preset (stored.Timer l r 0 p) x y e)) (step Ton preset (stored.Timer l r s q) x y now)
  unfolding step
  ton_keeps false y l r e s p q runs = (refl, refl, refl, refl, λ g. absurd (off_on g))
  ton_keeps true y l true e s p q runs = (refl, refl, refl, sym (timely.passed e s (runs refl)), λ g. timely.stays e s (runs refl))
  ton_keeps true y l false e s p q runs = (refl, refl, refl, sym (just_begun e), λ g. timely.begun e)

  tof_keeps : (x y l r : Bool) (e s : ℕ) (p q : Bool) → (r ≡ true → R e s)
      → MayBe R Tof preset (untimed_of Tof preset e (step Tof preset (stored.Timer l r 0 p) x y e)) (step Tof preset (stored.Timer l r s q) x y now)
  unfolding step
  tof_keeps true y l r e s p q runs = (refl, refl, refl, refl, λ g. absurd (off_on g))
  tof_keeps false y true r e s p q runs =
      timed_keeps Tof refl false (nat_lt (e - e) preset) (nat_lt (now - now) preset) e e now (runs_so preset (e - e) (now - now) (just_begun e)) (λ g. timely.begun e)
  tof_keeps false y false true e s p q runs =
      timed_keeps Tof refl false (nat_lt (e - 0) preset) (nat_lt (now - s) preset) e 0 s (runs_so preset (e - 0) (now - s) (timely.passed e s (runs refl)))
      (λ g. timely.stays e s (runs refl))
  tof_keeps false y false false e s p q runs = (refl, refl, refl, refl, λ g. absurd (off_on g))

  -- a pulse that stays where a is ON, or else begins where c is ON
  pulse_keeps : (x c a b : Bool) (e s : ℕ) → b ≡ a → (a ≡ true → R (min (e - 0) preset) s)
      → MayBe R Tp preset (untimed_of Tp preset e (cond a (stored.Timer x true 0 true) (cond c (stored.Timer x true e true) (stored.Timer x false 0 false))))
      (cond b (stored.Timer x true s true) (cond c (stored.Timer x true now true) (stored.Timer x false 0 false)))
  pulse_keeps x c true true e s same runs = (refl, refl, refl, refl, runs)
  pulse_keeps x c true false e s same runs = absurd (off_on same)
  pulse_keeps x c false true e s same runs = absurd (off_on (sym same))
  pulse_keeps x true false false e s same runs = (refl, refl, refl, refl, λ g. timely.begun e)
  pulse_keeps x false false false e s same runs = (refl, refl, refl, refl, λ g. absurd (off_on g))

  tp_keeps : (x y l r : Bool) (e s : ℕ) (p q : Bool) → (r ≡ true → R e s)
      → MayBe R Tp preset (untimed_of Tp preset e (step Tp preset (stored.Timer l r 0 p) x y e)) (step Tp preset (stored.Timer l r s q) x y now)
  unfolding step
  tp_keeps x y l true e s p q runs =
      pulse_keeps x (x && (not l && nat_lt 0 preset)) (nat_lt (e - 0) preset) (nat_lt (now - s) preset) e s (runs_so preset (e - 0) (now - s) (timely.passed e s (runs refl)))
      (λ g. timely.stays e s (runs refl))
  tp_keeps x y l false e s p q runs = pulse_keeps x (x && (not l && nat_lt 0 preset)) false false e s refl (λ g. absurd (off_on g))

  timer_keeps : (kind : BlockKind) → new_block kind ≡ stored.Timer false false 0 false → (x y l r : Bool) (e s : ℕ) (p q : Bool) → (r ≡ true → R e s)
      → MayBe R kind preset (step_known kind preset (Timer l r e p) x y) (step kind preset (stored.Timer l r s q) x y now)
  unfolding step_known
  timer_keeps Ton timer x y l r e s p q runs = ton_keeps x y l r e s p q runs
  timer_keeps Tof timer x y l r e s p q runs = tof_keeps x y l r e s p q runs
  timer_keeps Tp timer x y l r e s p q runs = tp_keeps x y l r e s p q runs
  timer_keeps Ctu timer x y l r e s p q runs = cc
  timer_keeps Ctd timer x y l r e s p q runs = cc
  timer_keeps Sr timer x y l r e s p q runs = cc
  timer_keeps Rs timer x y l r e s p q runs = cc

-- ---- steps of counters
abbrev raised : ℤ → ℤ
raised cv = cond (int_lt cv (pos 32767)) (cv +ℤ pos 1) cv

abbrev lowered : ℤ → ℤ
lowered cv = cond (int_lt (negsuc 32767) cv) (cv -ℤ pos 1) cv

up_capped : (preset : ℕ) (cv : ℤ) → capped Ctu preset (raised cv) ≡ capped Ctu preset (raised (capped Ctu preset cv))
up_capped preset cv = grind (arith, ints, nat_tests)

up_reached : (preset : ℕ) (cv : ℤ) → int_le (pos preset) (raised cv) ≡ int_le (pos preset) (raised (capped Ctu preset cv))
up_reached preset cv = grind (arith, ints, nat_tests)

up_again : (preset : ℕ) (cv : ℤ) → capped Ctu preset cv ≡ capped Ctu preset (capped Ctu preset cv)
up_again preset cv = grind (arith, ints, nat_tests)

up_still : (preset : ℕ) (cv : ℤ) → int_le (pos preset) cv ≡ int_le (pos preset) (capped Ctu preset cv)
up_still preset cv = grind (arith, ints, nat_tests)

down_capped : (preset : ℕ) (cv : ℤ) → capped Ctd preset (lowered cv) ≡ capped Ctd preset (lowered (capped Ctd preset cv))
down_capped preset cv = grind (arith, ints, nat_tests)

down_reached : (preset : ℕ) (cv : ℤ) → int_le (lowered cv) (pos 0) ≡ int_le (lowered (capped Ctd preset cv)) (pos 0)
down_reached preset cv = grind (arith, ints, nat_tests)

down_again : (preset : ℕ) (cv : ℤ) → capped Ctd preset cv ≡ capped Ctd preset (capped Ctd preset cv)
down_again preset cv = grind (arith, ints, nat_tests)

down_still : (preset : ℕ) (cv : ℤ) → int_le cv (pos 0) ≡ int_le (capped Ctd preset cv) (pos 0)
down_still preset cv = grind (arith, ints, nat_tests)

module _ (R : ℕ → ℕ → Type 0) (preset now : ℕ) where
  ctu_keeps : (x y l : Bool) (cv : ℤ) (p q : Bool)
      → MayBe R Ctu preset (untimed_of Ctu preset 0 (step Ctu preset (stored.Counter l (capped Ctu preset cv) p) x y 0)) (step Ctu preset (stored.Counter l cv q) x y now)
  unfolding step
  ctu_keeps x true l cv p q = (refl, refl, refl, refl)
  ctu_keeps true false true cv p q = (refl, refl, up_again preset cv, up_still preset cv)
  ctu_keeps true false false cv p q = (refl, refl, up_capped preset cv, up_reached preset cv)
  ctu_keeps false false l cv p q = (refl, refl, up_again preset cv, up_still preset cv)

  ctd_keeps : (x y l : Bool) (cv : ℤ) (p q : Bool)
      → MayBe R Ctd preset (untimed_of Ctd preset 0 (step Ctd preset (stored.Counter l (capped Ctd preset cv) p) x y 0)) (step Ctd preset (stored.Counter l cv q) x y now)
  unfolding step
  ctd_keeps x true l cv p q = (refl, refl, refl, refl)
  ctd_keeps true false true cv p q = (refl, refl, down_again preset cv, down_still preset cv)
  ctd_keeps true false false cv p q = (refl, refl, down_capped preset cv, down_reached preset cv)
  ctd_keeps false false l cv p q = (refl, refl, down_again preset cv, down_still preset cv)

  counter_keeps : (kind : BlockKind) → new_block kind ≡ stored.Counter false (pos 0) false → (x y l : Bool) (cv : ℤ) (p q : Bool)
      → MayBe R kind preset (step_known kind preset (Counter l (capped kind preset cv) p) x y) (step kind preset (stored.Counter l cv q) x y now)
  unfolding step_known
  counter_keeps Ton counter x y l cv p q = cc
  counter_keeps Tof counter x y l cv p q = cc
  counter_keeps Tp counter x y l cv p q = cc
  counter_keeps Ctu counter x y l cv p q = ctu_keeps x y l cv p q
  counter_keeps Ctd counter x y l cv p q = ctd_keeps x y l cv p q
  counter_keeps Sr counter x y l cv p q = cc
  counter_keeps Rs counter x y l cv p q = cc

  -- ---- where the Q alone is known
  same_shape : (kind : BlockKind) (s : Stored) (x y : Bool) → shape s ≡ new_block kind → shape (step kind preset s x y now) ≡ new_block kind
  same_shape kind s x y h = step_shape kind preset s x y now ∙ h

  output_keeps : (kind : BlockKind) (q : Tri) (x y : Bool) (s : Stored) → MayBe R kind preset (Output q) s
      → MayBe R kind preset (step_known kind preset (Output q) x y) (step kind preset s x y now)
  unfolding step_known step
  output_keeps Ton q true y s h = (same_shape Ton s true y h.0, tt)
  output_keeps Ton q false y (stored.Timer last running start b) h = (refl, refl, refl, refl, λ g. absurd (off_on g))
  output_keeps Ton q false y (stored.Counter last cv b) h = cc
  output_keeps Ton q false y (stored.Bistable b) h = cc
  output_keeps Tof q false y s h = (same_shape Tof s false y h.0, tt)
  output_keeps Tof q true y (stored.Timer last running start b) h = (refl, refl, refl, refl, λ g. absurd (off_on g))
  output_keeps Tof q true y (stored.Counter last cv b) h = cc
  output_keeps Tof q true y (stored.Bistable b) h = cc
  output_keeps Tp q x y s h = (same_shape Tp s x y h.0, tt)
  output_keeps Ctu q x false s h = (same_shape Ctu s x false h.0, tt)
  output_keeps Ctu q x true (stored.Counter last cv b) h = (refl, refl, refl, refl)
  output_keeps Ctu q x true (stored.Timer last running start b) h = cc
  output_keeps Ctu q x true (stored.Bistable b) h = cc
  output_keeps Ctd q x false s h = (same_shape Ctd s x false h.0, tt)
  output_keeps Ctd q x true (stored.Counter last cv b) h = (refl, refl, refl, refl)
  output_keeps Ctd q x true (stored.Timer last running start b) h = cc
  output_keeps Ctd q x true (stored.Bistable b) h = cc
  output_keeps Sr q x y (stored.Bistable b) h = (
    refl,
    three_allowed.join_allows (three_known x) (three_meet (three_known (not y)) q) 0 x (not y && b) tt tt refl (known_allows x)
        (three_allowed.meet_allows (three_known (not y)) q 0 (not y) b tt tt refl (known_allows (not y)) h.1),
  )
  output_keeps Sr q x y (stored.Timer last running start b) h = cc
  output_keeps Sr q x y (stored.Counter last cv b) h = cc
  output_keeps Rs q x y (stored.Bistable b) h = (
    refl,
    three_allowed.meet_allows (three_known (not y)) (three_join (three_known x) q) 0 (not y) (x || b) tt tt refl (known_allows (not y))
        (three_allowed.join_allows (three_known x) q 0 x b tt tt refl (known_allows x) h.1),
  )
  output_keeps Rs q x y (stored.Timer last running start b) h = cc
  output_keeps Rs q x y (stored.Counter last cv b) h = cc

counters : (l2 l q : Bool) (v : ℤ) → l2 ≡ l → stored.Counter l2 v q ≡ stored.Counter l v q
counters l2 l q v e = cc

module _ (R : ℕ → ℕ → Type 0) (preset now : ℕ) (timely : Timely R preset now) where
  step_keeps : (kind : BlockKind) (x y : Bool) (b : Untimed) (s : Stored) → MayBe R kind preset b s
      → MayBe R kind preset (step_known kind preset b x y) (step kind preset s x y now)
  unfolding step_known
  step_keeps kind x y (Timer l r e p) (stored.Timer l2 r2 s q) h =
      subst (λ (z : Stored). MayBe R kind preset (step_known kind preset (Timer l r e p) x y) (step kind preset z x y now)) (sym (timers l2 l r2 r q s h.1 h.2))
      (timer_keeps R preset now timely kind h.0 x y l r e s p q h.4)
  step_keeps kind x y (Timer l r e p) (stored.Counter l2 cv2 q) h = absurd h
  step_keeps kind x y (Timer l r e p) (stored.Bistable q) h = absurd h
  step_keeps kind x y (Counter l cv p) (stored.Timer l2 r2 s q) h = absurd h
  step_keeps kind x y (Counter l cv p) (stored.Counter l2 cv2 q) h =
      subst (λ (v : ℤ). MayBe R kind preset (step_known kind preset (Counter l v p) x y) (step kind preset (stored.Counter l2 cv2 q) x y now)) h.2
      (subst (λ (z : Stored). MayBe R kind preset (step_known kind preset (Counter l (capped kind preset cv2) p) x y) (step kind preset z x y now)) (sym (counters l2 l q cv2 h.1))
      (counter_keeps R preset now kind h.0 x y l cv2 p q))
  step_keeps kind x y (Counter l cv p) (stored.Bistable q) h = absurd h
  step_keeps kind x y (Output q) s h = output_keeps R preset now kind q x y s h
  step_keeps kind x y Anything s h = tt

-- ---- at both timings
is_timely : (timing : Timing) (now preset : ℕ) → Timely (HasRun timing now preset) preset now
is_timely AnyMoments now preset = record {
  passed = λ e s h. grind (arith, nat_tests);
  begun = λ e. grind (arith, nat_tests);
  stays = λ e s h. grind (arith, nat_tests);
}
is_timely (Every every) now preset = record {
  passed = λ e s h. grind (arith, nat_tests);
  begun = λ e. (omega arith, omega arith);
  stays = λ e s h. (h.0, omega arith);
}

-- What is known of instances keeps what steps and choices leave.
pub untimed_keeps : (timing : Timing) (now : ℕ) (d : Diagram)
    → StepsKeep d untimed plainly (AllowsAt AnyTri OnePlace three_allows 0) (λ inst. MayBe (HasRun timing now (d.preset inst)) (d.kind inst) (d.preset inst)) 0 now
untimed_keeps timing now d =
    let runs = λ (inst : ℕ). HasRun timing now (d.preset inst) in record {
      past = λ inst. tt;
      q = λ inst b c h. (tt, λ _. q_keeps (runs inst) (d.kind inst) (d.preset inst) b c h);
      step = λ inst b c x y s t h first second.
          input_keeps (runs inst) (d.kind inst) (d.preset inst) x (λ u. by_input y (λ v. step_known (d.kind inst) (d.preset inst) b u v))
          (λ u. step (d.kind inst) (d.preset inst) c u t now)
          (λ u. input_keeps (runs inst) (d.kind inst) (d.preset inst) y (λ v. step_known (d.kind inst) (d.preset inst) b u v)
          (λ v. step (d.kind inst) (d.preset inst) c u v now)
          (λ v. step_keeps (runs inst) (d.preset inst) now (is_timely timing now (d.preset inst)) (d.kind inst) u v b c h) t (second.1 refl))
          s (first.1 refl);
      choice = λ inst g h b e c f r p q. choice_keeps (runs inst) (d.kind inst) (d.preset inst) g h b e c f (r.1 refl) p q;
    }
