-- Private: in each step an instance answers in one of three ways, whatever it stores.
use Rattle.std.proofs.Common.{◌≡◌, ◌∙◌, ◌⊎◌, inl, inr, ℕ, ℤ, Bool, true, false, not, cond, refl, sym, ap, subst, ◌&&◌, ◌||◌, ◌-◌, ◌+ℤ◌, ◌-ℤ◌, nat_eq, nat_lt, nat_le, pos, negsuc, int_le, int_lt, arith}
use Rattle.std.proofs.lemmas.Int.{ints}
use Rattle.std.proofs.lemmas.Bool.Decides.{nat_tests}
use Rattle.diagram_declarations.specs.declared.kind.BlockKind.{BlockKind}
use Rattle.diagram_declarations.specs.declared.kind.BlockKind.TheVariants.{Ton, Tof, Tp, Ctu, Ctd, Sr, Rs}
use Rattle.scan_signals.specs.declared.block.Stored.{Stored}
use Rattle.scan_signals.specs.declared.block.Stored.TheVariants.{Timer, Counter, Bistable}
use Rattle.scan_signals.specs.Blocks.{step, q_of, new_block}
use Rattle.scan_cycle.specs.RungByRung.{shape}
use Rattle.scan_signals.specs.Three.{three_known, three_join, three_meet, three_inverse, three_choice, three_allows}
use Rattle.scan_signals.specs.declared.tri.Tri.{Tri}
use Rattle.scan_signals.specs.declared.tri.Tri.TheVariants.{Off}
use Rattle.invariant_cases.specs.Outcomes.{DoesAnswer, answered, q_after}
use Rattle.invariant_cases.specs.declared.answer.Answer.{Answer}
use Rattle.invariant_cases.specs.declared.answer.Answer.TheVariants.{Off as AnswersOff, On as AnswersOn, Input}

abbrev Allows : Tri → Bool → Type 0
Allows x b = three_allows x 0 b

-- It holds of one of the three answers.
abbrev pub OneAnswer : (Answer → Type 0) → Type 0
OneAnswer P = P AnswersOff ⊎ P AnswersOn ⊎ P Input

of_two : (P : Answer → Type 0) (b : Bool) → P (cond b AnswersOn AnswersOff) → OneAnswer P
of_two P true p = inr (inl p)
of_two P false p = inl p

of_pulse : (P : Answer → Type 0) (runs last : Bool) → P (cond runs AnswersOn (cond last AnswersOff Input)) → OneAnswer P
of_pulse P true last p = inr (inl p)
of_pulse P false true p = inl p
of_pulse P false false p = inr (inr p)

of_count : (P : Answer → Type 0) (is will : Bool) → P (cond is AnswersOn (cond will Input AnswersOff)) → OneAnswer P
of_count P true will p = inr (inl p)
of_count P false true p = inr (inr p)
of_count P false false p = inl p

known_allows : (b : Bool) → Allows (three_known b) b
known_allows true = refl
known_allows false = refl

-- ---- timers
ton_q : (on : Bool) (preset since since2 now : ℕ) → q_of (cond on (Timer true true since2 (nat_le preset (now - since))) (Timer false false 0 false)) ≡ (on && nat_le preset (now - since))
ton_q true preset since since2 now = refl
ton_q false preset since since2 now = refl

tof_q : (on runs : Bool) (since : ℕ) → q_of (cond on (Timer true false 0 true) (Timer false runs since runs)) ≡ (on || runs)
tof_q true runs since = refl
tof_q false runs since = refl

tp_q : (runs begins on : Bool) (start now : ℕ) → q_of (cond runs (Timer on true start true) (cond begins (Timer on true now true) (Timer on false 0 false))) ≡ (runs || begins)
tp_q true begins on start now = refl
tp_q false true on start now = refl
tp_q false false on start now = refl

has_passed : (preset n : ℕ) → nat_eq preset 0 ≡ true → nat_le preset n ≡ true
has_passed preset n e = grind (arith, nat_tests)

never_runs : (preset n : ℕ) (runs : Bool) → nat_eq preset 0 ≡ true → (runs && nat_lt n preset) ≡ false
never_runs preset n runs e = grind (arith, nat_tests)

is_positive : (preset : ℕ) → nat_lt 0 preset ≡ not (nat_eq preset 0)
is_positive preset = grind (arith, nat_tests)

off_on : false ≡ true → ⊥
off_on h = cc

-- z tells whether the preset is 0
ton_tells : (z passed : Bool) → (z ≡ true → passed ≡ true) → (x : Bool)
    → Allows (cond z (three_known x) (three_meet (three_known x) (answered (cond passed AnswersOn AnswersOff) (three_known x)))) (x && passed)
ton_tells true true h true = refl
ton_tells true true h false = refl
ton_tells true false h x = absurd (off_on (h refl))
ton_tells false true h true = refl
ton_tells false true h false = refl
ton_tells false false h true = refl
ton_tells false false h false = refl

tof_tells : (z runs : Bool) → (z ≡ true → runs ≡ false) → (x : Bool)
    → Allows (cond z (three_known x) (three_join (three_known x) (answered (cond runs AnswersOn AnswersOff) (three_known x)))) (x || runs)
tof_tells true true h x = absurd (off_on (sym (h refl)))
tof_tells true false h true = refl
tof_tells true false h false = refl
tof_tells false true h true = refl
tof_tells false true h false = refl
tof_tells false false h true = refl
tof_tells false false h false = refl

tp_tells : (z runs last : Bool) → (z ≡ true → runs ≡ false) → (x : Bool)
    → Allows (cond z Off (answered (cond runs AnswersOn (cond last AnswersOff Input)) (three_known x))) (runs || (x && (not last && not z)))
tp_tells true true last h x = absurd (off_on (sym (h refl)))
tp_tells true false true h true = refl
tp_tells true false true h false = refl
tp_tells true false false h true = refl
tp_tells true false false h false = refl
tp_tells false true last h x = refl
tp_tells false false true h true = refl
tp_tells false false true h false = refl
tp_tells false false false h true = refl
tp_tells false false false h false = refl

ton_answers : (preset now : ℕ) (last running : Bool) (start : ℕ) (q : Bool) → OneAnswer (λ a. DoesAnswer Ton preset now a (Timer last running start q))
unfolding q_after step
ton_answers preset now last running start q =
    let since = cond running start now in
    let passed = nat_le preset (now - since) in
    of_two (λ a. DoesAnswer Ton preset now a (Timer last running start q)) passed
    (λ x y. subst (Allows (q_after Ton preset (three_known q) (cond passed AnswersOn AnswersOff) (three_known x) (three_known y))) (sym (ton_q x preset since since now))
    (ton_tells (nat_eq preset 0) passed (has_passed preset (now - since)) x))

tof_answers : (preset now : ℕ) (last running : Bool) (start : ℕ) (q : Bool) → OneAnswer (λ a. DoesAnswer Tof preset now a (Timer last running start q))
unfolding q_after step
tof_answers preset now last running start q =
    let since = cond last now start in
    let runs = (last || running) && nat_lt (now - since) preset in
    of_two (λ a. DoesAnswer Tof preset now a (Timer last running start q)) runs
    (λ x y. subst (Allows (q_after Tof preset (three_known q) (cond runs AnswersOn AnswersOff) (three_known x) (three_known y))) (sym (tof_q x runs (cond runs since 0)))
    (tof_tells (nat_eq preset 0) runs (never_runs preset (now - since) (last || running)) x))

tp_answers : (preset now : ℕ) (last running : Bool) (start : ℕ) (q : Bool) → OneAnswer (λ a. DoesAnswer Tp preset now a (Timer last running start q))
unfolding q_after step
tp_answers preset now last running start q =
    let runs = running && nat_lt (now - start) preset in
    of_pulse (λ a. DoesAnswer Tp preset now a (Timer last running start q)) runs last
    (λ x y. subst (Allows (q_after Tp preset (three_known q) (cond runs AnswersOn (cond last AnswersOff Input)) (three_known x) (three_known y)))
    (sym (tp_q runs (x && (not last && nat_lt 0 preset)) x start now ∙ ap (λ b. runs || (x && (not last && b))) (is_positive preset)))
    (tp_tells (nat_eq preset 0) runs last (never_runs preset (now - start) running) x))

-- ---- counters
none_counted : (preset : ℕ) → int_le (pos preset) (pos 0) ≡ nat_eq preset 0
none_counted preset = grind (arith, ints, nat_tests)

one_up : (preset : ℕ) (cv : ℤ) → int_le (pos preset) cv ≡ true → int_le (pos preset) (cv +ℤ pos 1) ≡ true
one_up preset cv h = grind (arith, ints)

one_down : (cv : ℤ) → int_le cv (pos 0) ≡ true → int_le (cv -ℤ pos 1) (pos 0) ≡ true
one_down cv h = grind (arith, ints)

-- by whether it resets or loads, and counts
counted : (f : ℤ → Bool) (reset counts : Bool) (u v w : ℤ) → f (cond reset u (cond counts v w)) ≡ cond reset (f u) (cond counts (f v) (f w))
counted f true counts u v w = refl
counted f false true u v w = refl
counted f false false u v w = refl

count_tells : (z is next rises : Bool) → (is ≡ true → next ≡ true) → (x y : Bool)
    → Allows (three_choice (three_known y) (three_known z) (answered (cond is AnswersOn (cond (rises && next) Input AnswersOff)) (three_known x))) (cond y z (cond (x && rises) next is))
count_tells z is next rises h x true = known_allows z
count_tells z true true rises h true false = refl_cond rises
  where
    refl_cond : (rises : Bool) → cond rises true true ≡ true
    refl_cond true = refl
    refl_cond false = refl
count_tells z true true rises h false false = refl
count_tells z true false rises h x false = absurd (off_on (h refl))
count_tells z false true true h true false = refl
count_tells z false true true h false false = refl
count_tells z false true false h true false = refl
count_tells z false true false h false false = refl
count_tells z false false true h true false = refl
count_tells z false false true h false false = refl
count_tells z false false false h true false = refl
count_tells z false false false h false false = refl

ctu_answers : (preset now : ℕ) (last : Bool) (cv : ℤ) (q : Bool) → OneAnswer (λ a. DoesAnswer Ctu preset now a (Counter last cv q))
unfolding q_after step
ctu_answers preset now last cv q =
    let rises = not last && int_lt cv (pos 32767) in
    let is = int_le (pos preset) cv in
    let next = int_le (pos preset) (cv +ℤ pos 1) in
    of_count (λ a. DoesAnswer Ctu preset now a (Counter last cv q)) is (rises && next)
    (λ x y. subst (Allows (q_after Ctu preset (three_known q) (cond is AnswersOn (cond (rises && next) Input AnswersOff)) (three_known x) (three_known y)))
    (sym (counted (int_le (pos preset)) y (x && rises) (pos 0) (cv +ℤ pos 1) cv ∙ ap (λ b. cond y b (cond (x && rises) next is)) (none_counted preset)))
    (count_tells (nat_eq preset 0) is next rises (one_up preset cv) x y))

ctd_answers : (preset now : ℕ) (last : Bool) (cv : ℤ) (q : Bool) → OneAnswer (λ a. DoesAnswer Ctd preset now a (Counter last cv q))
unfolding q_after step
ctd_answers preset now last cv q =
    let rises = not last && int_lt (negsuc 32767) cv in
    let is = int_le cv (pos 0) in
    let next = int_le (cv -ℤ pos 1) (pos 0) in
    of_count (λ a. DoesAnswer Ctd preset now a (Counter last cv q)) is (rises && next)
    (λ x y. subst (Allows (q_after Ctd preset (three_known q) (cond is AnswersOn (cond (rises && next) Input AnswersOff)) (three_known x) (three_known y)))
    (sym (counted (λ v. int_le v (pos 0)) y (x && rises) (pos preset) (cv -ℤ pos 1) cv ∙ ap (λ b. cond y b (cond (x && rises) next is)) (none_counted preset)))
    (count_tells (nat_eq preset 0) is next rises (one_down cv) x y))

-- ---- bistables, which Q and the inputs tell
sr_tells : (q x y : Bool) → Allows (three_join (three_known x) (three_meet (three_inverse (three_known y)) (three_known q))) (x || (not y && q))
sr_tells q true y = refl
sr_tells true false true = refl
sr_tells true false false = refl
sr_tells false false true = refl
sr_tells false false false = refl

rs_tells : (q x y : Bool) → Allows (three_meet (three_inverse (three_known y)) (three_join (three_known x) (three_known q))) (not y && (x || q))
rs_tells q x true = refl
rs_tells q true false = refl
rs_tells true false false = refl
rs_tells false false false = refl

sr_answers : (preset now : ℕ) (q : Bool) → OneAnswer (λ a. DoesAnswer Sr preset now a (Bistable q))
unfolding q_after step
sr_answers preset now q = inl (sr_tells q)

rs_answers : (preset now : ℕ) (q : Bool) → OneAnswer (λ a. DoesAnswer Rs preset now a (Bistable q))
unfolding q_after step
rs_answers preset now q = inl (rs_tells q)

-- ---- an instance of any kind
timer_counter : Timer false false 0 false ≡ Counter false (pos 0) false → ⊥
timer_counter h = cc

timer_bistable : Timer false false 0 false ≡ Bistable false → ⊥
timer_bistable h = cc

counter_timer : Counter false (pos 0) false ≡ Timer false false 0 false → ⊥
counter_timer h = cc

counter_bistable : Counter false (pos 0) false ≡ Bistable false → ⊥
counter_bistable h = cc

bistable_timer : Bistable false ≡ Timer false false 0 false → ⊥
bistable_timer h = cc

bistable_counter : Bistable false ≡ Counter false (pos 0) false → ⊥
bistable_counter h = cc

pub one_answer : (kind : BlockKind) (preset now : ℕ) (s : Stored) → shape s ≡ new_block kind → OneAnswer (λ a. DoesAnswer kind preset now a s)
one_answer Ton preset now (Timer last running start q) e = ton_answers preset now last running start q
one_answer Tof preset now (Timer last running start q) e = tof_answers preset now last running start q
one_answer Tp preset now (Timer last running start q) e = tp_answers preset now last running start q
one_answer Ctu preset now (Timer last running start q) e = absurd (timer_counter e)
one_answer Ctd preset now (Timer last running start q) e = absurd (timer_counter e)
one_answer Sr preset now (Timer last running start q) e = absurd (timer_bistable e)
one_answer Rs preset now (Timer last running start q) e = absurd (timer_bistable e)
one_answer Ton preset now (Counter last cv q) e = absurd (counter_timer e)
one_answer Tof preset now (Counter last cv q) e = absurd (counter_timer e)
one_answer Tp preset now (Counter last cv q) e = absurd (counter_timer e)
one_answer Ctu preset now (Counter last cv q) e = ctu_answers preset now last cv q
one_answer Ctd preset now (Counter last cv q) e = ctd_answers preset now last cv q
one_answer Sr preset now (Counter last cv q) e = absurd (counter_bistable e)
one_answer Rs preset now (Counter last cv q) e = absurd (counter_bistable e)
one_answer Ton preset now (Bistable q) e = absurd (bistable_timer e)
one_answer Tof preset now (Bistable q) e = absurd (bistable_timer e)
one_answer Tp preset now (Bistable q) e = absurd (bistable_timer e)
one_answer Ctu preset now (Bistable q) e = absurd (bistable_counter e)
one_answer Ctd preset now (Bistable q) e = absurd (bistable_counter e)
one_answer Sr preset now (Bistable q) e = sr_answers preset now q
one_answer Rs preset now (Bistable q) e = rs_answers preset now q
