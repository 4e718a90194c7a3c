-- What counters hold after a list of steps.
use Rattle.std.proofs.Common.{◌≡◌, ℕ, ◌+◌, min, Bool, true, false, not, cond, ◌&&◌, List, [], ◌∷◌, refl, ap, ◌∙◌, arith, ℤ, pos, negsuc, ◌+ℤ◌, ◌-ℤ◌, int_lt}
use Rattle.std.specs.Int.{int_max}
use Rattle.std.proofs.lemmas.Bool.Decides.{nat_tests}
use Rattle.std.proofs.lemmas.Int.{ints}
use Rattle.diagram_declarations.specs.declared.kind.BlockKind.TheVariants.{Ctu, Ctd}
use Rattle.scan_signals.specs.declared.block.Stored.{Stored}
use Rattle.scan_signals.specs.declared.block.Stored.TheVariants.{Timer, Counter, Bistable}
use Rattle.scan_signals.specs.Blocks.{step}
use Rattle.scan_signals.specs.Histories.{StepInput, after, last_on, rises, loaded, cv_of, CtuHistory, CtdHistory}

-- CV after a step
abbrev pub counted_up : Bool → ℤ → Bool → Bool → ℤ
counted_up last cv on reset = cond reset (pos 0) (cond (on && (not last && int_lt cv (pos 32767))) (cv +ℤ pos 1) cv)

abbrev pub counted_down : ℕ → Bool → ℤ → Bool → Bool → ℤ
counted_down preset last cv on load = cond load (pos preset) (cond (on && (not last && int_lt (negsuc 32767) cv)) (cv -ℤ pos 1) cv)

-- the last count input, and the value
abbrev IsCounter : Bool → ℤ → Stored → Type 0
IsCounter on value (Timer last running start q) = ⊥
IsCounter on value (Counter last cv q) = (last ≡ on) × (cv ≡ value)
IsCounter on value (Bistable q) = ⊥

is_cv : (on : Bool) (value : ℤ) (s : Stored) → IsCounter on value s → cv_of s ≡ value
is_cv on value (Timer last running start q) h = absurd h
is_cv on value (Counter last cv q) h = h.1
is_cv on value (Bistable q) h = absurd h

up_rise : (n : ℕ) → cond (int_lt (pos (min 32767 n)) (pos 32767)) (pos (min 32767 n) +ℤ pos 1) (pos (min 32767 n)) ≡ pos (min 32767 (n + 1))
up_rise n = grind (arith, ints, nat_tests)

up_more : (last on second : Bool) (n : ℕ) → counted_up last (pos (min 32767 n)) on second ≡ pos (min 32767 (cond second 0 (cond (on && not last) (n + 1) n)))
up_more last on true n = refl
up_more true true false n = refl
up_more false true false n = up_rise n
up_more true false false n = refl
up_more false false false n = refl

ctu_step : (preset : ℕ) (was : Bool) (n : ℕ) (on second : Bool) (now : ℕ) (s : Stored) → IsCounter was (pos (min 32767 n)) s →
    IsCounter on (pos (min 32767 (cond second 0 (cond (on && not was) (n + 1) n)))) (step Ctu preset s on second now)
unfolding step
ctu_step preset was n on second now (Timer last running start q) h = absurd h
ctu_step preset was n on second now (Bistable q) h = absurd h
ctu_step preset was n on second now (Counter last cv q) h =
    (refl, ap (λ l. counted_up l cv on second) h.0 ∙ ap (λ c. counted_up was c on second) h.1 ∙ up_more was on second n)

ctu_is : (preset : ℕ) (xs : List StepInput) → IsCounter (last_on xs) (pos (min 32767 (rises xs))) (after Ctu preset xs)
unfolding after
ctu_is preset [] = (refl, refl)
ctu_is preset (x ∷ older) = ctu_step preset (last_on older) (rises older) x.on x.second x.now (after Ctu preset older) (ctu_is preset older)

pub ctu_history : CtuHistory
ctu_history preset xs = is_cv _ _ (after Ctu preset xs) (ctu_is preset xs)

-- ---- CTD
abbrev level : ℕ → ℕ → ℤ
level a n = int_max (negsuc 32767) (pos a -ℤ pos n)

down_rise : (a n : ℕ) → cond (int_lt (negsuc 32767) (level a n)) (level a n -ℤ pos 1) (level a n) ≡ level a (n + 1)
down_rise a n = grind (arith, ints, nat_tests)

level_zero : (a : ℕ) → pos a ≡ level a 0
level_zero a = grind (arith, ints, nat_tests)

down_more : (preset : ℕ) (last on second : Bool) (a n : ℕ) → counted_down preset last (level a n) on second ≡ level (cond second preset a) (cond second 0 (cond (on && not last) (n + 1) n))
down_more preset last on true a n = level_zero preset
down_more preset true true false a n = refl
down_more preset false true false a n = down_rise a n
down_more preset true false false a n = refl
down_more preset false false false a n = refl

ctd_step : (preset : ℕ) (was : Bool) (a n : ℕ) (on second : Bool) (now : ℕ) (s : Stored) → IsCounter was (level a n) s →
    IsCounter on (level (cond second preset a) (cond second 0 (cond (on && not was) (n + 1) n))) (step Ctd preset s on second now)
unfolding step
ctd_step preset was a n on second now (Timer last running start q) h = absurd h
ctd_step preset was a n on second now (Bistable q) h = absurd h
ctd_step preset was a n on second now (Counter last cv q) h =
    (refl, ap (λ l. counted_down preset l cv on second) h.0 ∙ ap (λ c. counted_down preset was c on second) h.1 ∙ down_more preset was on second a n)

ctd_is : (preset : ℕ) (xs : List StepInput) → IsCounter (last_on xs) (level (loaded preset xs) (rises xs)) (after Ctd preset xs)
unfolding after
ctd_is preset [] = (refl, level_zero 0)
ctd_is preset (x ∷ older) = ctd_step preset (last_on older) (loaded preset older) (rises older) x.on x.second x.now (after Ctd preset older) (ctd_is preset older)

pub ctd_history : CtdHistory
ctd_history preset xs = is_cv _ _ (after Ctd preset xs) (ctd_is preset xs)
