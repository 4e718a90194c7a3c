-- Private to `PartlyAt`: what is known of an instance after a step allows what the step leaves.
use Rattle.std.proofs.Common.{◌≡◌, ◌∙◌, ℕ, ℤ, int_eq, Bool, true, false, not, cond, refl, sym, ap, subst, ◌&&◌, ◌||◌, ◌-◌, nat_eq, nat_lt, arith}
use Rattle.std.proofs.lemmas.Bool.Decides.{Decides-int_eq, nat_tests}
use Rattle.diagram_declarations.specs.declared.kind.BlockKind.{BlockKind}
use Rattle.diagram_declarations.specs.declared.kind.BlockKind.TheVariants.{Ton, Tof, Tp, Ctu, Ctd, Sr, Rs}
use Rattle.scan_signals.specs.declared.block.Stored.{Stored}
use Rattle.scan_signals.specs.declared.block.Stored.TheVariants.{Timer, Counter, Bistable}
use Rattle.scan_signals.specs.Blocks.{step, q_of}
use Rattle.scan_signals.specs.Three.{three_known, three_join, three_meet, three_choice, three_allows}
use Rattle.scan_held.specs.declared.partly.Partly.{Partly}
use Rattle.scan_held.specs.declared.partly.Partly.TheVariants.{Exactly, SomeTimer, SomeCounter, SomeBistable, Anything}
use Rattle.scan_held.specs.Partly.{by_input, choice_partly, loosened, may_store, merged, merged_sort, partly, q_partly, same_bool, same_stored, sort_of, step_known}
use Rattle.scan_signals.specs.declared.tri.Tri.{Tri}
use Rattle.scan_cycle.specs.Cells.{Diagram}
use Rattle.scan_symbolic.specs.KnownScan.{plainly}
use Rattle.scan_symbolic.specs.KnownLaws.{StepsKeep}
use Rattle.scan_signals.specs.Relations.{AllowsAt}
use Rattle.scan_signals.specs.Truth.{OnePlace}
use Rattle.scan_signals.specs.Three.{AnyTri}
use Rattle.scan_signals.specs.ThreeLaws.{three_allowed}
use Rattle.scan_signals.specs.declared.tri.Tri.TheVariants.{Off, On, Unsure}

known_allows : (b : Bool) → three_allows (three_known b) 0 b
known_allows true = refl
known_allows false = refl

agree_left : (q r : Tri) (b : Bool) → three_allows q 0 b → three_allows (three_choice Unsure q r) 0 b
agree_left On On b h = h
agree_left Off Off b h = h
agree_left Unsure r b h = h
agree_left _ _ b h = tt

agree_right : (q r : Tri) (b : Bool) → three_allows r 0 b → three_allows (three_choice Unsure q r) 0 b
agree_right On On b h = h
agree_right Off Off b h = h
agree_right Unsure Unsure b h = h
agree_right _ _ b h = tt

-- ---- one of two
own_sort : (s : Stored) → may_store (loosened s) s
own_sort (Timer last running start q) = known_allows q
own_sort (Counter last cv q) = known_allows q
own_sort (Bistable q) = known_allows q

sort_allows : (x : Partly) (s : Stored) → may_store x s → may_store (sort_of x) s
sort_allows (Exactly s) t h = subst (λ (u : Stored). may_store (loosened s) u) (sym h) (own_sort s)
sort_allows Anything t h = tt
sort_allows _ t h = h

sort_left : (x y : Partly) (s : Stored) → may_store x s → may_store (merged_sort x y) s
sort_left (Exactly x) (Exactly y) s h = tt
sort_left (SomeTimer q) (SomeTimer r) (Timer last running start b) h = agree_left q r b h
sort_left (SomeTimer q) (SomeTimer r) (Counter last cv b) h = absurd h
sort_left (SomeTimer q) (SomeTimer r) (Bistable b) h = absurd h
sort_left (SomeCounter q) (SomeCounter r) (Timer last running start b) h = absurd h
sort_left (SomeCounter q) (SomeCounter r) (Counter last cv b) h = agree_left q r b h
sort_left (SomeCounter q) (SomeCounter r) (Bistable b) h = absurd h
sort_left (SomeBistable q) (SomeBistable r) (Timer last running start b) h = absurd h
sort_left (SomeBistable q) (SomeBistable r) (Counter last cv b) h = absurd h
sort_left (SomeBistable q) (SomeBistable r) (Bistable b) h = agree_left q r b h
sort_left Anything (Exactly y) s h = tt
sort_left _ _ s h = tt

sort_right : (x y : Partly) (s : Stored) → may_store y s → may_store (merged_sort x y) s
sort_right (Exactly x) (Exactly y) s h = tt
sort_right (SomeTimer q) (SomeTimer r) (Timer last running start b) h = agree_right q r b h
sort_right (SomeTimer q) (SomeTimer r) (Counter last cv b) h = absurd h
sort_right (SomeTimer q) (SomeTimer r) (Bistable b) h = absurd h
sort_right (SomeCounter q) (SomeCounter r) (Timer last running start b) h = absurd h
sort_right (SomeCounter q) (SomeCounter r) (Counter last cv b) h = agree_right q r b h
sort_right (SomeCounter q) (SomeCounter r) (Bistable b) h = absurd h
sort_right (SomeBistable q) (SomeBistable r) (Timer last running start b) h = absurd h
sort_right (SomeBistable q) (SomeBistable r) (Counter last cv b) h = absurd h
sort_right (SomeBistable q) (SomeBistable r) (Bistable b) h = agree_right q r b h
sort_right Anything (Exactly y) s h = tt
sort_right _ _ s h = tt

both_on : (a b : Bool) → (a && b) ≡ true → (a ≡ true) × (b ≡ true)
both_on true true h = (refl, refl)
both_on true false h = cc
both_on false b h = cc

same_bools : (a b : Bool) → same_bool a b ≡ true → a ≡ b
same_bools true true h = refl
same_bools true false h = cc
same_bools false true h = cc
same_bools false false h = refl

same_numbers : (a b : ℕ) → nat_eq a b ≡ true → a ≡ b
same_numbers a b h = grind (arith, nat_tests)

off_on : false ≡ true → ⊥
off_on h = cc

same_timer : (a b c d : Bool) (m n : ℕ) (e f : Bool) → a ≡ b → c ≡ d → m ≡ n → e ≡ f → Timer a c m e ≡ Timer b d n f
same_timer a b c d m n e f h i j k = cc

same_counter : (a b : Bool) (v w : ℤ) (e f : Bool) → a ≡ b → v ≡ w → e ≡ f → Counter a v e ≡ Counter b w f
same_counter a b v w e f h i j = cc

same_is : (s t : Stored) → same_stored s t ≡ true → s ≡ t
same_is (Timer a c m e) (Timer b d n f) h =
    let one = both_on (same_bool a b) _ h in
    let two = both_on (same_bool c d) _ one.1 in
    let three = both_on (nat_eq m n) _ two.1 in
    same_timer a b c d m n e f (same_bools a b one.0) (same_bools c d two.0) (same_numbers m n three.0) (same_bools e f three.1)
same_is (Counter a v e) (Counter b w f) h =
    let one = both_on (same_bool a b) _ h in
    let two = both_on (int_eq v w) _ one.1 in
    same_counter a b v w e f (same_bools a b one.0) ((Decides-int_eq v w).0 two.0) (same_bools e f two.1)
same_is (Bistable e) (Bistable f) h = ap (λ (q : Bool). Bistable q) (same_bools e f h)
same_is _ _ h = absurd (off_on h)

exactly_left : (s t u : Stored) → u ≡ s → may_store (merged (Exactly s) (Exactly t)) u
exactly_left s t u h = elim (same_stored s t) as (λ b. may_store (cond b (Exactly s) (merged_sort (loosened s) (loosened t))) u) [
  | true ↦ h
  | false ↦ sort_left (loosened s) (loosened t) u (sort_allows (Exactly s) u h)
]

exactly_right : (s t u : Stored) → u ≡ t → may_store (merged (Exactly s) (Exactly t)) u
exactly_right s t u h = from (same_stored s t) refl
  where
    from : (b : Bool) → same_stored s t ≡ b → may_store (cond b (Exactly s) (merged_sort (loosened s) (loosened t))) u
    from true e = h ∙ sym (same_is s t e)
    from false e = sort_right (loosened s) (loosened t) u (sort_allows (Exactly t) u h)

merged_left : (x y : Partly) (s : Stored) → may_store x s → may_store (merged x y) s
merged_left (Exactly s) (Exactly t) u h = exactly_left s t u h
merged_left (Exactly x) (SomeTimer r) s h = sort_left (sort_of (Exactly x)) (sort_of (SomeTimer r)) s (sort_allows (Exactly x) s h)
merged_left (Exactly x) (SomeCounter r) s h = sort_left (sort_of (Exactly x)) (sort_of (SomeCounter r)) s (sort_allows (Exactly x) s h)
merged_left (Exactly x) (SomeBistable r) s h = sort_left (sort_of (Exactly x)) (sort_of (SomeBistable r)) s (sort_allows (Exactly x) s h)
merged_left (Exactly x) Anything s h = sort_left (sort_of (Exactly x)) (sort_of Anything) s (sort_allows (Exactly x) s h)
merged_left (SomeTimer q) y s h = sort_left (sort_of (SomeTimer q)) (sort_of y) s (sort_allows (SomeTimer q) s h)
merged_left (SomeCounter q) y s h = sort_left (sort_of (SomeCounter q)) (sort_of y) s (sort_allows (SomeCounter q) s h)
merged_left (SomeBistable q) y s h = sort_left (sort_of (SomeBistable q)) (sort_of y) s (sort_allows (SomeBistable q) s h)
merged_left Anything y s h = sort_left (sort_of Anything) (sort_of y) s (sort_allows Anything s h)

merged_right : (x y : Partly) (s : Stored) → may_store y s → may_store (merged x y) s
merged_right (Exactly s) (Exactly t) u h = exactly_right s t u h
merged_right (Exactly x) (SomeTimer r) s h = sort_right (sort_of (Exactly x)) (sort_of (SomeTimer r)) s (sort_allows (SomeTimer r) s h)
merged_right (Exactly x) (SomeCounter r) s h = sort_right (sort_of (Exactly x)) (sort_of (SomeCounter r)) s (sort_allows (SomeCounter r) s h)
merged_right (Exactly x) (SomeBistable r) s h = sort_right (sort_of (Exactly x)) (sort_of (SomeBistable r)) s (sort_allows (SomeBistable r) s h)
merged_right (Exactly x) Anything s h = sort_right (sort_of (Exactly x)) (sort_of Anything) s (sort_allows Anything s h)
merged_right (SomeTimer q) y s h = sort_right (sort_of (SomeTimer q)) (sort_of y) s (sort_allows y s h)
merged_right (SomeCounter q) y s h = sort_right (sort_of (SomeCounter q)) (sort_of y) s (sort_allows y s h)
merged_right (SomeBistable q) y s h = sort_right (sort_of (SomeBistable q)) (sort_of y) s (sort_allows y s h)
merged_right Anything y s h = sort_right (sort_of Anything) (sort_of y) s (sort_allows y s h)

-- ---- by a condition or an input
choice_sound : (g : Tri) (h : Bool) (x y : Partly) (s t : Stored) → three_allows g 0 h → may_store x s → may_store y t → may_store (choice_partly g x y) (cond h s t)
choice_sound On h x y s t e p q = subst (λ (b : Bool). may_store x (cond b s t)) (sym e) p
choice_sound Off h x y s t e p q = subst (λ (b : Bool). may_store y (cond b s t)) (sym e) q
choice_sound Unsure true x y s t e p q = merged_left x y s p
choice_sound Unsure false x y s t e p q = merged_right x y t q

input_sound : (x : Tri) (f : Bool → Partly) (g : Bool → Stored) → ((b : Bool) → may_store (f b) (g b)) → (b : Bool) → three_allows x 0 b → may_store (by_input x f) (g b)
input_sound On f g h b e = subst (λ (c : Bool). may_store (f true) (g c)) (sym e) (h true)
input_sound Off f g h b e = subst (λ (c : Bool). may_store (f false) (g c)) (sym e) (h false)
input_sound Unsure f g h true e = merged_left (f true) (f false) (g true) (h true)
input_sound Unsure f g h false e = merged_right (f true) (f false) (g false) (h false)

pub q_sound : (b : Partly) (s : Stored) → may_store b s → three_allows (q_partly b) 0 (q_of s)
q_sound (Exactly t) s h = subst (λ (u : Stored). three_allows (three_known (q_of t)) 0 (q_of u)) (sym h) (known_allows (q_of t))
q_sound (SomeTimer q) (Timer last running start b) h = h
q_sound (SomeCounter q) (Counter last cv b) h = h
q_sound (SomeBistable q) (Bistable b) h = h
q_sound Anything s h = tt
q_sound _ _ h = absurd h

-- ---- steps
some_timer : (c : Bool) (s t : Stored) → may_store (SomeTimer Unsure) s → may_store (SomeTimer Unsure) t → may_store (SomeTimer Unsure) (cond c s t)
some_timer true s t h g = h
some_timer false s t h g = g

step_sound : (kind : BlockKind) (preset : ℕ) (x y : Bool) (now : ℕ) (b : Partly) (s : Stored) → may_store b s → may_store (step_known kind preset b x y now) (step kind preset s x y now)
unfolding step_known step
step_sound Ton preset x y now (Exactly t) s h = ap (λ (u : Stored). step Ton preset u x y now) h
step_sound Ton preset x y now Anything s h = tt
step_sound Ton preset true y now (SomeTimer q) (Timer last running start b) h = tt
step_sound Ton preset false y now (SomeTimer q) (Timer last running start b) h = refl
step_sound Ton preset x y now (SomeCounter q) (Counter last cv b) h = h
step_sound Ton preset x y now (SomeBistable q) (Bistable b) h = h
step_sound Tof preset x y now (Exactly t) s h = ap (λ (u : Stored). step Tof preset u x y now) h
step_sound Tof preset x y now Anything s h = tt
step_sound Tof preset true y now (SomeTimer q) (Timer last running start b) h = refl
step_sound Tof preset false y now (SomeTimer q) (Timer last running start b) h = tt
step_sound Tof preset x y now (SomeCounter q) (Counter last cv b) h = h
step_sound Tof preset x y now (SomeBistable q) (Bistable b) h = h
step_sound Tp preset x y now (Exactly t) s h = ap (λ (u : Stored). step Tp preset u x y now) h
step_sound Tp preset x y now Anything s h = tt
step_sound Tp preset x y now (SomeTimer q) (Timer last running start b) h =
    some_timer (running && nat_lt (now - start) preset) (Timer x true start true) _ tt
    (some_timer (x && (not last && nat_lt 0 preset)) (Timer x true now true) (Timer x false 0 false) tt tt)
step_sound Tp preset x y now (SomeCounter q) (Counter last cv b) h = h
step_sound Tp preset x y now (SomeBistable q) (Bistable b) h = h
step_sound Ctu preset x y now (Exactly t) s h = ap (λ (u : Stored). step Ctu preset u x y now) h
step_sound Ctu preset x y now Anything s h = tt
step_sound Ctu preset x y now (SomeTimer q) (Timer last running start b) h = h
step_sound Ctu preset x true now (SomeCounter q) (Counter last cv b) h = refl
step_sound Ctu preset x false now (SomeCounter q) (Counter last cv b) h = tt
step_sound Ctu preset x y now (SomeBistable q) (Bistable b) h = h
step_sound Ctd preset x y now (Exactly t) s h = ap (λ (u : Stored). step Ctd preset u x y now) h
step_sound Ctd preset x y now Anything s h = tt
step_sound Ctd preset x y now (SomeTimer q) (Timer last running start b) h = h
step_sound Ctd preset x true now (SomeCounter q) (Counter last cv b) h = refl
step_sound Ctd preset x false now (SomeCounter q) (Counter last cv b) h = tt
step_sound Ctd preset x y now (SomeBistable q) (Bistable b) h = h
step_sound Sr preset x y now (Exactly t) s h = ap (λ (u : Stored). step Sr preset u x y now) h
step_sound Sr preset x y now Anything s h = tt
step_sound Sr preset x y now (SomeTimer q) (Timer last running start b) h = h
step_sound Sr preset x y now (SomeCounter q) (Counter last cv b) h = h
step_sound Sr preset x y now (SomeBistable q) (Bistable b) h =
    three_allowed.join_allows (three_known x) (three_meet (three_known (not y)) q) 0 x (not y && b) tt tt refl (known_allows x)
    (three_allowed.meet_allows (three_known (not y)) q 0 (not y) b tt tt refl (known_allows (not y)) h)
step_sound Rs preset x y now (Exactly t) s h = ap (λ (u : Stored). step Rs preset u x y now) h
step_sound Rs preset x y now Anything s h = tt
step_sound Rs preset x y now (SomeTimer q) (Timer last running start b) h = h
step_sound Rs preset x y now (SomeCounter q) (Counter last cv b) h = h
step_sound Rs preset x y now (SomeBistable q) (Bistable b) h =
    three_allowed.meet_allows (three_known (not y)) (three_join (three_known x) q) 0 (not y) (x || b) tt tt refl (known_allows (not y))
    (three_allowed.join_allows (three_known x) q 0 x b tt tt refl (known_allows x) h)
step_sound _ preset x y now _ _ h = absurd h

-- What is known of instances keeps what steps and choices leave.
pub partly_keeps : (now : ℕ) (d : Diagram) → StepsKeep d partly plainly (AllowsAt AnyTri OnePlace three_allows 0) (λ inst. may_store) now now
partly_keeps now d = record {
  past = λ inst. refl;
  q = λ inst b c h. (tt, λ _. q_sound b c h);
  step = λ inst b c x y s t h first second.
      input_sound x (λ u. by_input y (λ v. step_known (d.kind inst) (d.preset inst) b u v now)) (λ u. step (d.kind inst) (d.preset inst) c u t now)
      (λ u. input_sound y (λ v. step_known (d.kind inst) (d.preset inst) b u v now) (λ v. step (d.kind inst) (d.preset inst) c u v now)
      (λ v. step_sound (d.kind inst) (d.preset inst) u v now b c h) t (second.1 refl))
      s (first.1 refl);
  choice = λ inst g h b e c f r p q. choice_sound g h b e c f (r.1 refl) p q;
}
