-- What timers answer after a list of steps.
use Rattle.std.proofs.Common.{◌≡◌, ℕ, ◌-◌, ◌≤◌, Bool, true, false, cond, ◌&&◌, ◌||◌, nat_lt, nat_le, List, [], ◌∷◌, refl, sym, ap, ◌∙◌, arith}
use Rattle.std.proofs.lemmas.Bool.Decides.{nat_tests}
use Rattle.diagram_declarations.specs.declared.kind.BlockKind.TheVariants.{Ton, Tof}
use Rattle.scan_signals.specs.declared.block.Stored.{Stored}
use Rattle.scan_signals.specs.declared.block.Stored.TheVariants.{Timer}
use Rattle.scan_signals.specs.Blocks.{step, q_of}
use Rattle.scan_signals.specs.Histories.{StepInput, after, NeverFalls, since, was_on, TonHistory, TofHistory}

-- ---- TON
abbrev ton_is : ℕ → Bool → ℕ → ℕ → Stored
ton_is preset on m now = cond on (Timer true true m (nat_le preset (now - m))) (Timer false false 0 false)

ton_more : (preset : ℕ) (b a second : Bool) (m before now : ℕ) → step Ton preset (ton_is preset b m before) a second now ≡ ton_is preset a (cond b m now) now
unfolding step
ton_more preset true true second m before now = refl
ton_more preset true false second m before now = refl
ton_more preset false true second m before now = refl
ton_more preset false false second m before now = refl

ton_after : (preset : ℕ) (x : StepInput) (older : List StepInput) → after Ton preset (x ∷ older) ≡ ton_is preset x.on (since true x.now older) x.now
unfolding after
ton_after preset x [] = ton_more preset false x.on x.second 0 0 x.now
ton_after preset x (y ∷ older) =
    ap (λ s. step Ton preset s x.on x.second x.now) (ton_after preset y older)
    ∙ ton_more preset y.on x.on x.second (since true y.now older) y.now x.now

ton_q : (preset : ℕ) (a : Bool) (m now : ℕ) → q_of (ton_is preset a m now) ≡ (a && nat_le preset (now - m))
ton_q preset true m now = refl
ton_q preset false m now = refl

pub ton_history : TonHistory
ton_history preset x older h = ap q_of (ton_after preset x older) ∙ ton_q preset x.on (since true x.now older) x.now

-- ---- TOF
abbrev tof_is : ℕ → Bool → Bool → ℕ → ℕ → Stored
tof_is preset on was m now =
    let runs = was && nat_lt (now - m) preset in
    cond on (Timer true false 0 true) (Timer false runs (cond runs m 0) runs)

-- a time that has run out stays so
still_out : (preset m before now : ℕ) → before ≤ now → nat_lt (before - m) preset ≡ false → nat_lt (now - m) preset ≡ false
still_out preset m before now h e = grind (arith, nat_tests)

tof_more : (preset : ℕ) (b a second was r : Bool) (m before now : ℕ) → before ≤ now → (was && nat_lt (before - m) preset) ≡ r →
    step Tof preset (tof_is preset b was m before) a second now ≡ tof_is preset a (b || was) (cond b now m) now
unfolding step
tof_more preset true true second was r m before now h e = refl
tof_more preset false false second true true m before now h e =
    ap (λ b. step Tof preset (Timer false b (cond b m 0) b) false second now) e
tof_more preset false false second true false m before now h e =
    ap (λ b. step Tof preset (Timer false b (cond b m 0) b) false second now) e
    ∙ sym (ap (λ b. Timer false b (cond b m 0) b) (still_out preset m before now h e))
tof_more preset _ _ second _ r m before now h e = refl

tof_after : (preset : ℕ) (x : StepInput) (older : List StepInput) → NeverFalls (x ∷ older) → after Tof preset (x ∷ older) ≡ tof_is preset x.on (was_on older) (since false x.now older) x.now
unfolding after
tof_after preset x [] h = tof_more preset false x.on x.second false false 0 0 x.now (omega arith) refl
    ∙ refl
tof_after preset x (y ∷ older) h =
    ap (λ s. step Tof preset s x.on x.second x.now) (tof_after preset y older h.1)
    ∙ tof_more preset y.on x.on x.second (was_on older) (was_on older && nat_lt (y.now - since false y.now older) preset) (since false y.now older) y.now x.now h.0 refl

tof_q : (preset : ℕ) (a was : Bool) (m now : ℕ) → q_of (tof_is preset a was m now) ≡ (a || (was && nat_lt (now - m) preset))
tof_q preset true was m now = refl
tof_q preset false was m now = refl

pub tof_history : TofHistory
tof_history preset x older h = ap q_of (tof_after preset x older h) ∙ tof_q preset x.on (was_on older) (since false x.now older) x.now
