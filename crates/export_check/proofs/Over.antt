-- Which rungs the jumps pass over whose flags are on.
use Rattle.std.proofs.Common.{◌≡◌, ℕ, ◌<◌, Bool, true, false, ◌&&◌, ◌||◌, All, List, [], ◌∷◌, length, get_or, set, zero, suc, refl, sym, ap, ap₂, ◌∙◌, arith, Some, slice_get}
use Rattle.std.proofs.lemmas.List.Elements.{All-head, All-tail}
use Rattle.export_check.specs.declared.jumps.Jump.{Jump}
use Rattle.export_check.specs.Jumps.{IsAlike, IsAside, is_over, passes}

and_false : (b : Bool) → (b && false) ≡ false
and_false true = refl
and_false false = refl

pub none_over : (jumps : List Jump) (flags : List Bool) (rung : ℕ) → All (IsAside rung) jumps → is_over jumps flags rung ≡ false
unfolding is_over
none_over [] flags rung a = refl
none_over (x ∷ xs) [] rung a = refl
none_over (x ∷ xs) (b ∷ bs) rung a =
    ap₂ (λ p q. (b && p) || q) (All-head (IsAside rung) x xs a) (none_over xs bs rung (All-tail (IsAside rung) x xs a))
    ∙ ap (λ p. p || false) (and_false b)

pub alike_over : (jumps : List Jump) (flags : List Bool) (rung other : ℕ) → All (IsAlike rung other) jumps → is_over jumps flags rung ≡ is_over jumps flags other
unfolding is_over
alike_over [] flags rung other a = refl
alike_over (x ∷ xs) [] rung other a = refl
alike_over (x ∷ xs) (b ∷ bs) rung other a =
    ap₂ (λ p q. (b && p) || q) (All-head (IsAlike rung other) x xs a) (alike_over xs bs rung other (All-tail (IsAlike rung other) x xs a))

-- where all flags are off
pub off_over : (jumps : List Jump) (flags : List Bool) (rung : ℕ) → ((i : ℕ) → get_or flags i false ≡ false) → is_over jumps flags rung ≡ false
unfolding is_over
off_over [] flags rung off = refl
off_over (x ∷ xs) [] rung off = refl
off_over (x ∷ xs) (b ∷ bs) rung off =
    ap₂ (λ c q. (c && passes rung x) || q) (off 0) (off_over xs bs rung (λ i. off (suc i)))

or_turn : (p q r : Bool) → (p || (q || r)) ≡ (q || (p || r))
or_turn true true r = refl
or_turn true false r = refl
or_turn false q r = refl

-- A flag that was off is set or reset.
pub set_over : (jumps : List Jump) (flags : List Bool) (rung number : ℕ) (jump : Jump) (on : Bool) → length flags ≡ length jumps → slice_get jumps number ≡ Some jump
    → get_or flags number false ≡ false → is_over jumps (set flags number on) rung ≡ ((on && passes rung jump) || is_over jumps flags rung)
unfolding is_over
set_over [] flags rung number jump on many is off = cc
set_over (x ∷ xs) [] rung number jump on many is off = cc
set_over (x ∷ xs) (b ∷ bs) rung zero jump on many is off =
    let same : x ≡ jump = cc in
    ap (λ j. (on && passes rung j) || is_over xs bs rung) same
    ∙ ap (λ c. (on && passes rung jump) || ((c && passes rung x) || is_over xs bs rung)) (sym off)
set_over (x ∷ xs) (b ∷ bs) rung (suc n) jump on many is off =
    ap (λ q. (b && passes rung x) || q) (set_over xs bs rung n jump on (omega (arith, many)) is off)
    ∙ or_turn (b && passes rung x) (on && passes rung jump) (is_over xs bs rung)

or_true : (p q : Bool) → q ≡ true → (p || q) ≡ true
or_true true q t = refl
or_true false q t = t

-- A flag is on whose jump passes over the rung.
pub on_over : (jumps : List Jump) (flags : List Bool) (rung number : ℕ) (jump : Jump) → slice_get jumps number ≡ Some jump → passes rung jump ≡ true
    → get_or flags number false ≡ true → is_over jumps flags rung ≡ true
unfolding is_over
on_over [] flags rung number jump is over on = cc
on_over (x ∷ xs) [] rung number jump is over on = cc
on_over (x ∷ xs) (b ∷ bs) rung zero jump is over on =
    let same : x ≡ jump = cc in
    ap₂ (λ c j. (c && passes rung j) || is_over xs bs rung) on same
    ∙ ap (λ p. p || is_over xs bs rung) over
on_over (x ∷ xs) (b ∷ bs) rung (suc n) jump is over on = or_true (b && passes rung x) (is_over xs bs rung) (on_over xs bs rung n jump is over on)

-- Such a flag.
pub record OneOn (jumps : List Jump) (flags : List Bool) (rung : ℕ) : Type 0 where
  pub number : ℕ
  pub jump : Jump
  pub is : slice_get jumps number ≡ Some jump
  pub over : passes rung jump ≡ true
  pub within : number < length flags
  pub on : get_or flags number false ≡ true

next_on : (x : Jump) (xs : List Jump) (b : Bool) (bs : List Bool) (rung : ℕ) → OneOn xs bs rung → OneOn (x ∷ xs) (b ∷ bs) rung
next_on x xs b bs rung one = record { number = suc one.number; jump = one.jump; is = one.is; over = one.over; within = omega (arith, one.within); on = one.on }

one_by : (x : Jump) (xs : List Jump) (b : Bool) (bs : List Bool) (rung : ℕ) (p : Bool) → passes rung x ≡ p → ((b && p) || is_over xs bs rung) ≡ true
    → (is_over xs bs rung ≡ true → OneOn xs bs rung) → OneOn (x ∷ xs) (b ∷ bs) rung
one_by x xs true bs rung true e t later = record { number = 0; jump = x; is = refl; over = e; within = omega arith; on = refl }
one_by x xs true bs rung false e t later = next_on x xs true bs rung (later t)
one_by x xs false bs rung p e t later = next_on x xs false bs rung (later t)

pub one_on : (jumps : List Jump) (flags : List Bool) (rung : ℕ) → is_over jumps flags rung ≡ true → OneOn jumps flags rung
unfolding is_over
one_on [] flags rung t = cc
one_on (x ∷ xs) [] rung t = cc
one_on (x ∷ xs) (b ∷ bs) rung t = one_by x xs b bs rung (passes rung x) refl t (one_on xs bs rung)
