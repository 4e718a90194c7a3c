-- A settled instance whose step leaves it as it is stays so.
use Rattle.std.proofs.Common.{◌≡◌, ℕ, ◌-◌, ◌≤◌, Bool, true, false, cond, nat_le, nat_lt, sym, ap, ◌∙◌, arith}
use Rattle.std.proofs.lemmas.Bool.Decides.{nat_tests}
use Rattle.diagram_declarations.specs.declared.kind.BlockKind.{BlockKind}
use Rattle.diagram_declarations.specs.declared.kind.BlockKind.TheVariants.{Ton, Tof, Tp}
use Rattle.scan_signals.specs.declared.block.Stored.{Stored}
use Rattle.scan_signals.specs.declared.block.Stored.TheVariants.{Timer, Counter, Bistable}
use Rattle.scan_signals.specs.Blocks.{step}
use Rattle.scan_incremental.specs.Resting.{is_settled}

on_off : false ≡ true → ⊥
on_off h = cc

still_over : (preset now later start : ℕ) → now ≤ later → nat_le preset (now - start) ≡ true → nat_le preset (later - start) ≡ true
still_over preset now later start le h = grind (arith, nat_tests)

same_q : (last p q : Bool) (start : ℕ) → Timer true true start p ≡ Timer last true start q → p ≡ q
same_q last p q start e = cc

runs_not : (last p q : Bool) (s t : ℕ) → Timer true true s p ≡ Timer last false t q → ⊥
runs_not last p q s t e = cc

fell : (r p q : Bool) (s t : ℕ) → Timer false r s p ≡ Timer true false t q → ⊥
fell r p q s t e = cc

rose : (b q : Bool) (s t : ℕ) → cond b (Timer true true s true) (Timer true false 0 false) ≡ Timer false false t q → ⊥
rose true q s t e = cc
rose false q s t e = cc

timer_stays : (kind : BlockKind) (preset : ℕ) (last running : Bool) (start : ℕ) (q x y : Bool) (now later : ℕ) → now ≤ later → is_settled kind (Timer last running start q) ≡ true
    → step kind preset (Timer last running start q) x y now ≡ Timer last running start q → step kind preset (Timer last running start q) x y later ≡ Timer last running start q
unfolding step
timer_stays Ton preset last true start true true y now later le h e =
    let over = same_q last (nat_le preset (now - start)) true start e in
    ap (λ b. Timer true true start b) (still_over preset now later start le over ∙ sym over) ∙ e
timer_stays Ton preset last true start false true y now later le h e = absurd (on_off h)
timer_stays Ton preset last false start q true y now later le h e = absurd (runs_not last _ q _ start e)
timer_stays Tof preset last true start q x y now later le h e = absurd (on_off h)
timer_stays Tof preset last false start q true y now later le h e = e
timer_stays Tof preset true false start q false y now later le h e = absurd (fell _ _ q _ start e)
timer_stays Tp preset last true start q x y now later le h e = absurd (on_off h)
timer_stays Tp preset last false start q false y now later le h e = e
timer_stays Tp preset false false start q true y now later le h e = absurd (rose (nat_lt 0 preset) q now start e)
timer_stays _ preset _ _ start q _ y now later le h e = e

pub settled_stays : (kind : BlockKind) (preset : ℕ) (s : Stored) (x y : Bool) (now later : ℕ) → now ≤ later → is_settled kind s ≡ true
    → step kind preset s x y now ≡ s → step kind preset s x y later ≡ s
unfolding step
settled_stays kind preset (Timer last running start q) x y now later le h e = timer_stays kind preset last running start q x y now later le h e
settled_stays Ton preset (Counter last cv q) x y now later le h e = e
settled_stays Ton preset (Bistable q) x y now later le h e = e
settled_stays _ preset _ x y now later le h e = e

-- the same by other names for the kind, the preset and what is stored
pub stays_by : (kind : BlockKind) (preset : ℕ) (s : Stored) (k : BlockKind) (p : ℕ) (t : Stored) (x y : Bool) (now later : ℕ) → now ≤ later → k ≡ kind → p ≡ preset → t ≡ s
    → is_settled k t ≡ true → step k p t x y now ≡ t → step kind preset s x y later ≡ s
stays_by kind preset s k p t x y now later le a b e h n =
    ap (λ (z : BlockKind). step z preset s x y later) (sym a) ∙ ap (λ (z : ℕ). step k z s x y later) (sym b) ∙ ap (λ (z : Stored). step k p z x y later) (sym e)
    ∙ settled_stays k p t x y now later le h n ∙ e
