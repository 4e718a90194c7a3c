-- Steps and merges keep what is alike but for starts, where the relation between starts is one to one and agrees on what has passed.
use Rattle.std.proofs.Common.{◌≡◌, ◌∙◌, ℕ, ◌-◌, Bool, true, false, not, cond, refl, sym, ap, ap₂, subst, ◌&&◌, nat_eq, nat_lt, nat_le, ℤ}
use Rattle.diagram_declarations.specs.declared.kind.BlockKind.{BlockKind}
use Rattle.diagram_declarations.specs.declared.kind.BlockKind.TheVariants.{Ton, Tof, Tp, Ctu, Ctd, Sr, Rs}
use Rattle.scan_signals.specs.declared.block.Stored.{Stored}
use Rattle.scan_signals.specs.declared.block.Stored.TheVariants.{Timer, Counter, Bistable}
use Rattle.scan_signals.specs.Blocks.{step, q_of}
use Rattle.scan_signals.specs.Relations.{IsKept}
use Rattle.scan_signals.specs.Three.{three, three_known}
use Rattle.scan_signals.specs.declared.tri.Tri.{Tri}
use Rattle.scan_signals.specs.declared.tri.Tri.TheVariants.{Off, On, Unsure}
use Rattle.scan_held.specs.Again.{PartlyAlike, StoredAlike}
use Rattle.scan_held.specs.Partly.{by_input, choice_partly, loosened, merged, merged_sort, q_partly, same_bool, same_stored, sort_of, step_known, step_partly}
use Rattle.scan_held.specs.declared.partly.Partly.{Partly}
use Rattle.scan_held.specs.declared.partly.Partly.TheVariants.{Exactly, SomeTimer, SomeCounter, SomeBistable, Anything}

off_on : false ≡ true → ⊥
off_on h = cc

on_off : true ≡ false → ⊥
on_off h = cc

timer_is : (l r l2 r2 q q2 : Bool) (m : ℕ) → l2 ≡ l → r2 ≡ r → q2 ≡ q → Timer l2 r2 m q2 ≡ Timer l r m q
timer_is l r l2 r2 q q2 m e f g = cc

counter_is : (l l2 : Bool) (v v2 : ℤ) (q q2 : Bool) → l2 ≡ l → v2 ≡ v → q2 ≡ q → Counter l2 v2 q2 ≡ Counter l v q
counter_is l l2 v v2 q q2 e f g = cc

-- equal values of three stay equal
pub three_same : IsKept three three (λ x y. x ≡ y)
three_same = record {
  known = λ c. refl;
  join = λ x y u v r s. ap₂ three.join r s;
  meet = λ x y u v r s. ap₂ three.meet r s;
  inverse = λ x u r. ap three.inverse r;
  choice = λ c x y d u v q r s. ap₂ (λ p z. three.choice p z y) q r ∙ ap (three.choice d u) s;
}

-- ---- what doesn't look at starts
module _ (R : ℕ → ℕ → Type 0) where
  loosened_alike : (s t : Stored) → StoredAlike R s t → loosened t ≡ loosened s
  loosened_alike (Timer l r a q) (Timer l2 r2 a2 q2) h = ap (λ (x : Bool). SomeTimer (three_known x)) h.2
  loosened_alike (Counter l v q) (Counter l2 v2 q2) h = ap (λ (x : Bool). SomeCounter (three_known x)) h.2
  loosened_alike (Bistable q) (Bistable q2) h = ap (λ (x : Bool). SomeBistable (three_known x)) h
  loosened_alike _ _ h = absurd h

  q_stored : (s t : Stored) → StoredAlike R s t → q_of s ≡ q_of t
  q_stored (Timer l r a q) (Timer l2 r2 a2 q2) h = sym h.2
  q_stored (Counter l v q) (Counter l2 v2 q2) h = sym h.2
  q_stored (Bistable q) (Bistable q2) h = sym h
  q_stored _ _ h = absurd h

  pub q_alike : (x y : Partly) → PartlyAlike R x y → q_partly x ≡ q_partly y
  q_alike (Exactly s) (Exactly t) h = ap three_known (q_stored s t h)
  q_alike _ _ h = ap q_partly (sym h)

  sort_alike : (x y : Partly) → PartlyAlike R x y → sort_of y ≡ sort_of x
  sort_alike (Exactly s) (Exactly t) h = loosened_alike s t h
  sort_alike _ _ h = ap sort_of h

  -- of which the sort alone is known
  same_sort : (x y : Partly) → PartlyAlike R (merged_sort x y) (merged_sort x y)
  same_sort (Exactly s) (Exactly t) = refl
  same_sort (SomeTimer q) (Exactly t) = refl
  same_sort (SomeCounter q) (Exactly t) = refl
  same_sort (SomeBistable q) (Exactly t) = refl
  same_sort Anything (Exactly t) = refl
  same_sort _ _ = refl

  sorts_alike : (x y x2 y2 : Partly) → x2 ≡ x → y2 ≡ y → PartlyAlike R (merged_sort x y) (merged_sort x2 y2)
  sorts_alike x y x2 y2 e f = subst (λ (z : Partly). PartlyAlike R (merged_sort x y) z) (sym (ap₂ merged_sort e f)) (same_sort x y)

-- ---- merges, where the relation is one to one
module _ (R : ℕ → ℕ → Type 0) (single : (s t s2 t2 : ℕ) → R s s2 → R t t2 → nat_eq s2 t2 ≡ nat_eq s t) where
  starts_same : (l m q p r u : Bool) (a b a2 b2 : ℕ) → (r ≡ true → R a a2) → (r ≡ false → a2 ≡ a) → (u ≡ true → R b b2) → (u ≡ false → b2 ≡ b)
      → same_stored (Timer l r a2 q) (Timer m u b2 p) ≡ same_stored (Timer l r a q) (Timer m u b p)
  starts_same l m q p true true a b a2 b2 e f g k = ap (λ (z : Bool). same_bool l m && (z && same_bool q p)) (single a b a2 b2 (e refl) (g refl))
  starts_same l m q p true false a b a2 b2 e f g k = refl
  starts_same l m q p false true a b a2 b2 e f g k = refl
  starts_same l m q p false false a b a2 b2 e f g k = ap₂ (λ (x y : ℕ). same_bool l m && (nat_eq x y && same_bool q p)) (f refl) (k refl)

  same_timers : (l r : Bool) (a : ℕ) (q l2 r2 : Bool) (a2 : ℕ) (q2 : Bool) (t t2 : Stored) → StoredAlike R (Timer l r a q) (Timer l2 r2 a2 q2) → StoredAlike R t t2
      → same_stored (Timer l2 r2 a2 q2) t2 ≡ same_stored (Timer l r a q) t
  same_timers l r a q l2 r2 a2 q2 (Timer m u b p) (Timer m2 u2 b2 p2) h g =
      ap₂ same_stored (timer_is l r l2 r2 q q2 a2 h.0 h.1 h.2) (timer_is m u m2 u2 p p2 b2 g.0 g.1 g.2)
      ∙ starts_same l m q p r u a b a2 b2 h.3 h.4 g.3 g.4
  same_timers l r a q l2 r2 a2 q2 (Counter m w p) (Counter m2 w2 p2) h g = refl
  same_timers l r a q l2 r2 a2 q2 (Bistable p) (Bistable p2) h g = refl
  same_timers l r a q l2 r2 a2 q2 _ _ h g = absurd g

  same_counters : (l : Bool) (v : ℤ) (q l2 : Bool) (v2 : ℤ) (q2 : Bool) (t t2 : Stored) → StoredAlike R (Counter l v q) (Counter l2 v2 q2) → StoredAlike R t t2
      → same_stored (Counter l2 v2 q2) t2 ≡ same_stored (Counter l v q) t
  same_counters l v q l2 v2 q2 (Timer m u b p) (Timer m2 u2 b2 p2) h g = refl
  same_counters l v q l2 v2 q2 (Counter m w p) (Counter m2 w2 p2) h g =
      ap₂ same_stored (counter_is l l2 v v2 q q2 h.0 h.1 h.2) (counter_is m m2 w w2 p p2 g.0 g.1 g.2)
  same_counters l v q l2 v2 q2 (Bistable p) (Bistable p2) h g = refl
  same_counters l v q l2 v2 q2 _ _ h g = absurd g

  same_bistables : (q q2 : Bool) (t t2 : Stored) → q2 ≡ q → StoredAlike R t t2 → same_stored (Bistable q2) t2 ≡ same_stored (Bistable q) t
  same_bistables q q2 (Timer m u b p) (Timer m2 u2 b2 p2) h g = refl
  same_bistables q q2 (Counter m w p) (Counter m2 w2 p2) h g = refl
  same_bistables q q2 (Bistable p) (Bistable p2) h g = ap₂ same_bool h g
  same_bistables q q2 _ _ h g = absurd g

  same_alike : (s t s2 t2 : Stored) → StoredAlike R s s2 → StoredAlike R t t2 → same_stored s2 t2 ≡ same_stored s t
  same_alike (Timer l r a q) t (Timer l2 r2 a2 q2) t2 h g = same_timers l r a q l2 r2 a2 q2 t t2 h g
  same_alike (Counter l v q) t (Counter l2 v2 q2) t2 h g = same_counters l v q l2 v2 q2 t t2 h g
  same_alike (Bistable q) t (Bistable q2) t2 h g = same_bistables q q2 t t2 h g
  same_alike _ t _ t2 h g = absurd h

  stored_merged : (s t s2 t2 : Stored) → StoredAlike R s s2 → StoredAlike R t t2 → PartlyAlike R (merged (Exactly s) (Exactly t)) (merged (Exactly s2) (Exactly t2))
  stored_merged s t s2 t2 h g = by (same_stored s t) (same_stored s2 t2) (same_alike s t s2 t2 h g)
    where
      by : (b c : Bool) → c ≡ b
          → PartlyAlike R (cond b (Exactly s) (merged_sort (loosened s) (loosened t))) (cond c (Exactly s2) (merged_sort (loosened s2) (loosened t2)))
      by true true e = h
      by true false e = absurd (off_on e)
      by false true e = absurd (on_off e)
      by false false e = sorts_alike R _ _ _ _ (loosened_alike R s s2 h) (loosened_alike R t t2 g)

  -- what is alike to what is stored is stored
  exactly : (s : Stored) (x : Partly) → PartlyAlike R (Exactly s) x → (P : Partly → Type 0) → ((t : Stored) → StoredAlike R s t → P (Exactly t)) → P x
  exactly s (Exactly t) h P f = f t h
  exactly s _ h P f = cc

  merged_alike : (x y x2 y2 : Partly) → PartlyAlike R x x2 → PartlyAlike R y y2 → PartlyAlike R (merged x y) (merged x2 y2)
  merged_alike (Exactly s) (Exactly t) x2 y2 h g =
      exactly s x2 h (λ (z : Partly). PartlyAlike R (merged (Exactly s) (Exactly t)) (merged z y2)) (λ s2 e.
      exactly t y2 g (λ (z : Partly). PartlyAlike R (merged (Exactly s) (Exactly t)) (merged (Exactly s2) z)) (λ t2 f. stored_merged s t s2 t2 e f))
  merged_alike (Exactly s) (SomeTimer r) x2 y2 h g =
      subst (λ (z : Partly). PartlyAlike R (merged (Exactly s) (SomeTimer r)) (merged x2 z)) (sym g)
      (exactly s x2 h (λ (z : Partly). PartlyAlike R (merged (Exactly s) (SomeTimer r)) (merged z (SomeTimer r)))
      (λ s2 e. sorts_alike R (loosened s) (SomeTimer r) (loosened s2) (SomeTimer r) (loosened_alike R s s2 e) refl))
  merged_alike (Exactly s) (SomeCounter r) x2 y2 h g =
      subst (λ (z : Partly). PartlyAlike R (merged (Exactly s) (SomeCounter r)) (merged x2 z)) (sym g)
      (exactly s x2 h (λ (z : Partly). PartlyAlike R (merged (Exactly s) (SomeCounter r)) (merged z (SomeCounter r)))
      (λ s2 e. sorts_alike R (loosened s) (SomeCounter r) (loosened s2) (SomeCounter r) (loosened_alike R s s2 e) refl))
  merged_alike (Exactly s) (SomeBistable r) x2 y2 h g =
      subst (λ (z : Partly). PartlyAlike R (merged (Exactly s) (SomeBistable r)) (merged x2 z)) (sym g)
      (exactly s x2 h (λ (z : Partly). PartlyAlike R (merged (Exactly s) (SomeBistable r)) (merged z (SomeBistable r)))
      (λ s2 e. sorts_alike R (loosened s) (SomeBistable r) (loosened s2) (SomeBistable r) (loosened_alike R s s2 e) refl))
  merged_alike (Exactly s) Anything x2 y2 h g =
      subst (λ (z : Partly). PartlyAlike R (merged (Exactly s) Anything) (merged x2 z)) (sym g)
      (exactly s x2 h (λ (z : Partly). PartlyAlike R (merged (Exactly s) Anything) (merged z Anything))
      (λ s2 e. sorts_alike R (loosened s) Anything (loosened s2) Anything (loosened_alike R s s2 e) refl))
  merged_alike (SomeTimer q) y x2 y2 h g =
      subst (λ (z : Partly). PartlyAlike R (merged (SomeTimer q) y) (merged z y2)) (sym h)
      (sorts_alike R (SomeTimer q) (sort_of y) (SomeTimer q) (sort_of y2) refl (sort_alike R y y2 g))
  merged_alike (SomeCounter q) y x2 y2 h g =
      subst (λ (z : Partly). PartlyAlike R (merged (SomeCounter q) y) (merged z y2)) (sym h)
      (sorts_alike R (SomeCounter q) (sort_of y) (SomeCounter q) (sort_of y2) refl (sort_alike R y y2 g))
  merged_alike (SomeBistable q) y x2 y2 h g =
      subst (λ (z : Partly). PartlyAlike R (merged (SomeBistable q) y) (merged z y2)) (sym h)
      (sorts_alike R (SomeBistable q) (sort_of y) (SomeBistable q) (sort_of y2) refl (sort_alike R y y2 g))
  merged_alike Anything y x2 y2 h g =
      subst (λ (z : Partly). PartlyAlike R (merged Anything y) (merged z y2)) (sym h)
      (sorts_alike R Anything (sort_of y) Anything (sort_of y2) refl (sort_alike R y y2 g))

  pub choice_alike : (g : Tri) (x y x2 y2 : Partly) → PartlyAlike R x x2 → PartlyAlike R y y2 → PartlyAlike R (choice_partly g x y) (choice_partly g x2 y2)
  choice_alike On x y x2 y2 h g = h
  choice_alike Off x y x2 y2 h g = g
  choice_alike Unsure x y x2 y2 h g = merged_alike x y x2 y2 h g

  input_alike : (x : Tri) (f g : Bool → Partly) → ((b : Bool) → PartlyAlike R (f b) (g b)) → PartlyAlike R (by_input x f) (by_input x g)
  input_alike x f g h = choice_alike x (f true) (f false) (g true) (g false) (h true) (h false)

-- ---- steps, one at each of two moments
module _ (R : ℕ → ℕ → Type 0) (single : (s t s2 t2 : ℕ) → R s s2 → R t t2 → nat_eq s2 t2 ≡ nat_eq s t) (preset now then : ℕ) (fresh : R now then)
    (passed : (s t : ℕ) → R s t → nat_le preset (then - t) ≡ nat_le preset (now - s)) (runs : (s t : ℕ) → R s t → nat_lt (then - t) preset ≡ nat_lt (now - s) preset) where
  stopped : {A : Type 0} → false ≡ true → A
  stopped g = absurd (off_on g)

  running : {A : Type 0} → true ≡ false → A
  running g = absurd (on_off g)

  timed : (on a b : Bool) (s t : ℕ) → b ≡ a → (a ≡ true → R s t) → StoredAlike R (Timer on a (cond a s 0) a) (Timer on b (cond b t 0) b)
  timed on true true s t e h = (refl, refl, refl, h, running)
  timed on true false s t e h = stopped e
  timed on false true s t e h = stopped (sym e)
  timed on false false s t e h = (refl, refl, refl, stopped, λ g. refl)

  ton : (l r : Bool) (s t : ℕ) (p q x y : Bool) → (r ≡ true → R s t) → StoredAlike R (step Ton preset (Timer l r s p) x y now) (step Ton preset (Timer l r t q) x y then)
  unfolding step
  ton l r s t p q false y h = (refl, refl, refl, stopped, λ g. refl)
  ton l true s t p q true y h = (refl, refl, passed s t (h refl), λ g. h refl, running)
  ton l false s t p q true y h = (refl, refl, passed now then fresh, λ g. fresh, running)

  tof : (l r : Bool) (s t : ℕ) (p q x y : Bool) → (r ≡ true → R s t) → StoredAlike R (step Tof preset (Timer l r s p) x y now) (step Tof preset (Timer l r t q) x y then)
  unfolding step
  tof l r s t p q true y h = (refl, refl, refl, stopped, λ g. refl)
  tof true r s t p q false y h = timed false _ _ now then (runs now then fresh) (λ g. fresh)
  tof false true s t p q false y h = timed false _ _ s t (runs s t (h refl)) (λ g. h refl)
  tof false false s t p q false y h = (refl, refl, refl, stopped, λ g. refl)

  -- a pulse that stays, or else begins where c is ON
  pulse : (x c a b : Bool) (s t : ℕ) → b ≡ a → (a ≡ true → R s t)
      → StoredAlike R (cond a (Timer x true s true) (cond c (Timer x true now true) (Timer x false 0 false)))
      (cond b (Timer x true t true) (cond c (Timer x true then true) (Timer x false 0 false)))
  pulse x c true true s t e h = (refl, refl, refl, h, running)
  pulse x c true false s t e h = stopped e
  pulse x c false true s t e h = stopped (sym e)
  pulse x true false false s t e h = (refl, refl, refl, λ g. fresh, running)
  pulse x false false false s t e h = (refl, refl, refl, stopped, λ g. refl)

  tp : (l r : Bool) (s t : ℕ) (p q x y : Bool) → (r ≡ true → R s t) → StoredAlike R (step Tp preset (Timer l r s p) x y now) (step Tp preset (Timer l r t q) x y then)
  unfolding step
  tp l true s t p q x y h = pulse x (x && (not l && nat_lt 0 preset)) _ _ s t (runs s t (h refl)) (λ g. h refl)
  tp l false s t p q x y h = pulse x (x && (not l && nat_lt 0 preset)) false false s t refl stopped

  timer : (kind : BlockKind) (x y l r : Bool) (s t : ℕ) (q : Bool) → (r ≡ true → R s t) → (r ≡ false → t ≡ s)
      → StoredAlike R (step kind preset (Timer l r s q) x y now) (step kind preset (Timer l r t q) x y then)
  unfolding step
  timer Ton x y l r s t q h k = ton l r s t q q x y h
  timer Tof x y l r s t q h k = tof l r s t q q x y h
  timer Tp x y l r s t q h k = tp l r s t q q x y h
  timer _ x y l r s t q h k = (refl, refl, refl, h, k)

  counter : (kind : BlockKind) (x y l : Bool) (v : ℤ) (q : Bool) → StoredAlike R (step kind preset (Counter l v q) x y now) (step kind preset (Counter l v q) x y then)
  unfolding step
  counter Ton x y l v q = (refl, refl, refl)
  counter _ x y l v q = (refl, refl, refl)

  bistable : (kind : BlockKind) (x y q : Bool) → StoredAlike R (step kind preset (Bistable q) x y now) (step kind preset (Bistable q) x y then)
  unfolding step
  bistable Ton x y q = refl
  bistable _ x y q = refl

  stored : (kind : BlockKind) (x y : Bool) (s t : Stored) → StoredAlike R s t → StoredAlike R (step kind preset s x y now) (step kind preset t x y then)
  stored kind x y (Timer l r a q) (Timer l2 r2 a2 q2) h =
      subst (λ (z : Stored). StoredAlike R (step kind preset (Timer l r a q) x y now) (step kind preset z x y then)) (sym (timer_is l r l2 r2 q q2 a2 h.0 h.1 h.2))
      (timer kind x y l r a a2 q h.3 h.4)
  stored kind x y (Counter l v q) (Counter l2 v2 q2) h =
      subst (λ (z : Stored). StoredAlike R (step kind preset (Counter l v q) x y now) (step kind preset z x y then)) (sym (counter_is l l2 v v2 q q2 h.0 h.1 h.2))
      (counter kind x y l v q)
  stored kind x y (Bistable q) (Bistable q2) h =
      subst (λ (z : Bool). StoredAlike R (step kind preset (Bistable q) x y now) (step kind preset (Bistable z) x y then)) (sym h)
      (bistable kind x y q)
  stored kind x y _ _ h = absurd h

  -- ---- where the sort alone is known, the moment makes no difference
  some_timer : (kind : BlockKind) (x y : Bool) (q : Tri) → PartlyAlike R (step_known kind preset (SomeTimer q) x y now) (step_known kind preset (SomeTimer q) x y then)
  unfolding step_known
  some_timer Ton false y q = (refl, refl, refl, stopped, λ g. refl)
  some_timer Tof true y q = (refl, refl, refl, stopped, λ g. refl)
  some_timer _ _ y q = refl

  some_counter : (kind : BlockKind) (x y : Bool) (q : Tri) → PartlyAlike R (step_known kind preset (SomeCounter q) x y now) (step_known kind preset (SomeCounter q) x y then)
  unfolding step_known
  some_counter Ctu x true q = (refl, refl, refl)
  some_counter Ctd x true q = (refl, refl, refl)
  some_counter _ x _ q = refl

  some_bistable : (kind : BlockKind) (x y : Bool) (q : Tri) → PartlyAlike R (step_known kind preset (SomeBistable q) x y now) (step_known kind preset (SomeBistable q) x y then)
  unfolding step_known
  some_bistable Ton x y q = refl
  some_bistable _ x y q = refl

  anything : (kind : BlockKind) (x y : Bool) → PartlyAlike R (step_known kind preset Anything x y now) (step_known kind preset Anything x y then)
  unfolding step_known
  anything Ton x y = refl
  anything _ x y = refl

  exactly_step : (kind : BlockKind) (x y : Bool) (s t : Stored) → StoredAlike R s t
      → PartlyAlike R (step_known kind preset (Exactly s) x y now) (step_known kind preset (Exactly t) x y then)
  unfolding step_known
  exactly_step Ton x y s t h = stored Ton x y s t h
  exactly_step Tof x y s t h = stored Tof x y s t h
  exactly_step Tp x y s t h = stored Tp x y s t h
  exactly_step Ctu x y s t h = stored Ctu x y s t h
  exactly_step Ctd x y s t h = stored Ctd x y s t h
  exactly_step Sr x y s t h = stored Sr x y s t h
  exactly_step Rs x y s t h = stored Rs x y s t h

  known_step : (kind : BlockKind) (x y : Bool) (b c : Partly) → PartlyAlike R b c → PartlyAlike R (step_known kind preset b x y now) (step_known kind preset c x y then)
  known_step kind x y (Exactly s) c h =
      exactly R single s c h (λ (z : Partly). PartlyAlike R (step_known kind preset (Exactly s) x y now) (step_known kind preset z x y then)) (exactly_step kind x y s)
  known_step kind x y (SomeTimer q) c h =
      subst (λ (z : Partly). PartlyAlike R (step_known kind preset (SomeTimer q) x y now) (step_known kind preset z x y then)) (sym h) (some_timer kind x y q)
  known_step kind x y (SomeCounter q) c h =
      subst (λ (z : Partly). PartlyAlike R (step_known kind preset (SomeCounter q) x y now) (step_known kind preset z x y then)) (sym h) (some_counter kind x y q)
  known_step kind x y (SomeBistable q) c h =
      subst (λ (z : Partly). PartlyAlike R (step_known kind preset (SomeBistable q) x y now) (step_known kind preset z x y then)) (sym h) (some_bistable kind x y q)
  known_step kind x y Anything c h =
      subst (λ (z : Partly). PartlyAlike R (step_known kind preset Anything x y now) (step_known kind preset z x y then)) (sym h) (anything kind x y)

  pub step_alike : (kind : BlockKind) (x y : Tri) (b c : Partly) → PartlyAlike R b c → PartlyAlike R (step_partly kind preset b x y now) (step_partly kind preset c x y then)
  step_alike kind x y b c h =
      input_alike R single x (λ u. by_input y (λ v. step_known kind preset b u v now)) (λ u. by_input y (λ v. step_known kind preset c u v then))
      (λ u. input_alike R single y (λ v. step_known kind preset b u v now) (λ v. step_known kind preset c u v then) (λ v. known_step kind u v b c h))
