-- What a pulse timer answers after a list of steps.
use Rattle.std.proofs.Common.{◌≡◌, ℕ, ◌-◌, Bool, true, false, not, cond, ◌&&◌, ◌||◌, nat_lt, nat_eq, List, [], ◌∷◌, refl, sym, ap, ◌∙◌, arith}
use Rattle.std.proofs.lemmas.Bool.Decides.{nat_tests}
use Rattle.diagram_declarations.specs.declared.kind.BlockKind.TheVariants.{Tp}
use Rattle.scan_signals.specs.declared.block.Stored.{Stored}
use Rattle.scan_signals.specs.declared.block.Stored.TheVariants.{Timer, Counter, Bistable}
use Rattle.scan_signals.specs.Blocks.{step, new_block, q_of}
use Rattle.scan_signals.specs.Histories.{StepInput, after, last_on, is_rise, rose_within, TpHistory}

-- a rise came at this moment
abbrev rose_at : ℕ → List StepInput → Bool
rose_at start [] = false
rose_at start (x ∷ older) = (is_rise x older && nat_eq x.now start) || rose_at start older

near : (preset now start moment : ℕ) → nat_eq moment start ≡ true → nat_lt (now - start) preset ≡ true → nat_lt (now - moment) preset ≡ true
near preset now start moment k e = grind (arith, nat_tests)

one_of : (a b c d e : Bool) → ((a && b) || c) ≡ true → (b ≡ true → d ≡ true) → (c ≡ true → e ≡ true) → ((a && d) || e) ≡ true
one_of a b c d e h f g = grind arith

at_within : (preset now start : ℕ) (xs : List StepInput) → rose_at start xs ≡ true → nat_lt (now - start) preset ≡ true → rose_within preset now xs ≡ true
at_within preset now start [] h e = cc
at_within preset now start (x ∷ older) h e =
    one_of (is_rise x older) (nat_eq x.now start) (rose_at start older) (nat_lt (now - x.now) preset) (rose_within preset now older) h
    (λ k. near preset now start x.now k e) (λ k. at_within preset now start older k e)

-- what is known of the stored block after steps of which the latest was at `now`
abbrev IsPulse : ℕ → ℕ → List StepInput → Stored → Type 0
IsPulse preset now xs (Timer last running start q) = (last ≡ last_on xs) × ((q ≡ running) × (running ≡ true → (rose_at start xs ≡ true) × (nat_lt (now - start) preset ≡ true)))
IsPulse preset now xs (Counter last cv q) = ⊥
IsPulse preset now xs (Bistable q) = ⊥

same_moment : (now : ℕ) → nat_eq now now ≡ true
same_moment now = grind (arith, nat_tests)

no_time : (preset now : ℕ) → nat_lt 0 preset ≡ true → nat_lt (now - now) preset ≡ true
no_time preset now h = grind (arith, nat_tests)

stay_1 : (a b : Bool) → (a && b) ≡ true → a ≡ true
stay_1 a b h = grind arith

stay_2 : (a b : Bool) → (a && b) ≡ true → b ≡ true
stay_2 a b h = grind arith

or_right : (a b : Bool) → b ≡ true → (a || b) ≡ true
or_right a b h = grind arith

or_left : (a b c : Bool) → a ≡ true → b ≡ true → ((a && b) || c) ≡ true
or_left a b c h k = grind arith

rise_is : (on last p : Bool) → (on && (not last && p)) ≡ true → (on && not last) ≡ true
rise_is on last p h = grind arith

time_is : (on last p : Bool) → (on && (not last && p)) ≡ true → p ≡ true
time_is on last p h = grind arith

-- the three cases of a step
pulse_more : (preset : ℕ) (x : StepInput) (older : List StepInput) (last running : Bool) (start : ℕ) (stays begins : Bool) →
    (running ≡ true → rose_at start older ≡ true) → last ≡ last_on older →
    (running && nat_lt (x.now - start) preset) ≡ stays → (x.on && (not last && nat_lt 0 preset)) ≡ begins →
    IsPulse preset x.now (x ∷ older) (cond stays (Timer x.on true start true) (cond begins (Timer x.on true x.now true) (Timer x.on false 0 false)))
pulse_more preset x older last running start true begins f l s b = (refl, (refl, λ r. (or_right _ _ (f (stay_1 _ _ s)), stay_2 _ _ s)))
pulse_more preset x older last running start false true f l s b =
    (refl, (refl, λ r. (or_left (is_rise x older) _ _ (ap (λ y. x.on && not y) (sym l) ∙ rise_is x.on last (nat_lt 0 preset) b) (same_moment x.now), no_time preset x.now (time_is x.on last (nat_lt 0 preset) b))))
pulse_more preset x older last running start false false f l s b = (refl, (refl, λ r. cc))

pulse_step : (preset : ℕ) (x : StepInput) (older : List StepInput) (before : ℕ) (s : Stored) → IsPulse preset before older s → IsPulse preset x.now (x ∷ older) (step Tp preset s x.on x.second x.now)
unfolding step
pulse_step preset x older before (Counter last cv q) h = absurd h
pulse_step preset x older before (Bistable q) h = absurd h
pulse_step preset x older before (Timer last running start q) h = pulse_more preset x older last running start _ _ (λ e. (h.1.1 e).0) h.0 refl refl

pulse_none : (preset : ℕ) → IsPulse preset 0 [] (new_block Tp)
pulse_none preset = (refl, (refl, λ e. cc))

unfoldable latest : List StepInput → ℕ
latest [] = 0
latest (x ∷ older) = x.now

pulse_is : (preset : ℕ) (xs : List StepInput) → IsPulse preset (latest xs) xs (after Tp preset xs)
unfolding after latest
pulse_is preset [] = pulse_none preset
pulse_is preset (x ∷ older) = pulse_step preset x older (latest older) (after Tp preset older) (pulse_is preset older)

pulse_q : (preset now : ℕ) (xs : List StepInput) (s : Stored) → IsPulse preset now xs s → q_of s ≡ true → rose_within preset now xs ≡ true
pulse_q preset now xs (Counter last cv q) h e = absurd h
pulse_q preset now xs (Bistable q) h e = absurd h
pulse_q preset now xs (Timer last running start q) h e =
    let w : (rose_at start xs ≡ true) × (nat_lt (now - start) preset ≡ true) = h.1.1 (sym h.1.0 ∙ e) in
    at_within preset now start xs w.0 w.1

pub tp_history : TpHistory
unfolding latest
tp_history preset x older n e = pulse_q preset x.now (x ∷ older) (after Tp preset (x ∷ older)) (pulse_is preset (x ∷ older)) e
