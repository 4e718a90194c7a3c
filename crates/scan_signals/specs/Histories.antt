-- The output of a block after any list of steps, stated without a stored block. The latest step is the head of the list.
use Rattle.std.specs.Prelude.{◌≡◌, ℕ, ◌+◌, ◌-◌, ◌≤◌, min, Bool, true, false, not, if◌then◌else◌, ◌&&◌, ◌||◌, ◌↔◌, All, IsTrue, ◌++◌, nat_lt, nat_le, List, [], ◌∷◌, ℤ, pos, negsuc, ◌-ℤ◌}
use Rattle.std.specs.Int.{int_max}
use Rattle.diagram_declarations.specs.declared.kind.BlockKind.{BlockKind}
use Rattle.diagram_declarations.specs.declared.kind.BlockKind.TheVariants.{Ton, Tof, Tp, Ctu, Ctd, Sr, Rs}
use Rattle.scan_signals.specs.declared.block.Stored.{Stored}
use Rattle.scan_signals.specs.declared.block.Stored.TheVariants.{Timer, Counter, Bistable}
use Rattle.scan_signals.specs.Blocks.{step, q_of, new_block}

-- What a step is given: the first input (IN, CU, CD, S1 or S), the second (R, LD or R1), and the moment.
pub record StepInput : Type 0 where
  pub on : Bool
  pub second : Bool
  pub now : ℕ

-- The stored block after these steps of a new one.
unfoldable pub after : BlockKind → ℕ → List StepInput → Stored
after kind preset [] = new_block kind
after kind preset (x ∷ older) = step kind preset (after kind preset older) x.on x.second x.now

-- The moments never fall.
abbrev pub NeverFalls : List StepInput → Type 0
NeverFalls [] = Unit {0}
NeverFalls (x ∷ []) = Unit {0}
NeverFalls (x ∷ y ∷ older) = (y.now ≤ x.now) × NeverFalls (y ∷ older)

-- The first moment of the longest run of latest steps whose IN is this one; `now` where there is none.
abbrev pub since : Bool → ℕ → List StepInput → ℕ
since true now [] = now
since false now [] = now
since true now (x ∷ older) = if x.on then since true x.now older else now
since false now (x ∷ older) = if x.on then now else since false x.now older

-- Some IN was ON.
abbrev pub was_on : List StepInput → Bool
was_on [] = false
was_on (x ∷ older) = x.on || was_on older

abbrev pub last_on : List StepInput → Bool
last_on [] = false
last_on (x ∷ older) = x.on

-- A rise: IN or the count input is ON, and in the step before it wasn't, or there was none.
abbrev pub is_rise : StepInput → List StepInput → Bool
is_rise x older = x.on && not (last_on older)

-- A rise came less than this before now.
abbrev pub rose_within : ℕ → ℕ → List StepInput → Bool
rose_within preset now [] = false
rose_within preset now (x ∷ older) = (is_rise x older && nat_lt (now - x.now) preset) || rose_within preset now older

-- How many rises came after the last step with R or LD ON; all rises, where there is none.
abbrev pub rises : List StepInput → ℕ
rises [] = 0
rises (x ∷ older) = if x.second then 0 else (if is_rise x older then rises older + 1 else rises older)

-- The value that was loaded last, 0 before any.
abbrev pub loaded : ℕ → List StepInput → ℕ
loaded preset [] = 0
loaded preset (x ∷ older) = if x.second then preset else loaded preset older

abbrev pub cv_of : Stored → ℤ
cv_of (Timer last running start q) = pos 0
cv_of (Counter last cv q) = cv
cv_of (Bistable q) = pos 0

-- TON: Q is ON exactly where IN is ON, and has been for PT.
abbrev pub TonHistory : Type 0
TonHistory = (preset : ℕ) (x : StepInput) (older : List StepInput) → NeverFalls (x ∷ older)
    → q_of (after Ton preset (x ∷ older)) ≡ (x.on && nat_le preset (x.now - since true x.now older))

-- TOF: Q is ON exactly where IN is ON, or was ON at some time and has been OFF for less than PT.
abbrev pub TofHistory : Type 0
TofHistory = (preset : ℕ) (x : StepInput) (older : List StepInput) → NeverFalls (x ∷ older)
    → q_of (after Tof preset (x ∷ older)) ≡ (x.on || (was_on older && nat_lt (x.now - since false x.now older) preset))

-- TP: Q is ON only where a rise came less than PT ago.
abbrev pub TpHistory : Type 0
TpHistory = (preset : ℕ) (x : StepInput) (older : List StepInput) → NeverFalls (x ∷ older)
    → q_of (after Tp preset (x ∷ older)) ≡ true → rose_within preset x.now (x ∷ older) ≡ true

-- CTU: CV is the number of rises after the last reset, but at most 32767.
abbrev pub CtuHistory : Type 0
CtuHistory = (preset : ℕ) (xs : List StepInput) → cv_of (after Ctu preset xs) ≡ pos (min 32767 (rises xs))

-- CTD: CV is the value last loaded less the rises since, but at least -32768.
abbrev pub CtdHistory : Type 0
CtdHistory = (preset : ℕ) (xs : List StepInput)
    → cv_of (after Ctd preset xs) ≡ int_max (negsuc 32767) (pos (loaded preset xs) -ℤ pos (rises xs))

-- Some step had S1 ON, and no later one had R ON.
pub record IsSet (xs : List StepInput) : Type 0 where
  pub later : List StepInput
  pub at : StepInput
  pub older : List StepInput
  pub steps : xs ≡ later ++ at ∷ older
  pub set : at.on ≡ true
  pub not_reset : All (λ y. y.second ≡ false) later

-- Some step had S ON, and neither it nor a later one had R1 ON.
pub record IsSetAlone (xs : List StepInput) : Type 0 where
  pub is_set : IsSet xs
  pub alone : is_set.at.second ≡ false

-- SR: Q1 is ON exactly where some step had S1 ON and no later one R: in one step with both, S1 wins.
abbrev pub SrHistory : Type 0
SrHistory = (preset : ℕ) (xs : List StepInput) → IsTrue (q_of (after Sr preset xs)) ↔ IsSet xs

-- RS: Q1 is ON exactly where some step had S ON, and neither it nor a later one R1: in one step with both, R1 wins.
abbrev pub RsHistory : Type 0
RsHistory = (preset : ℕ) (xs : List StepInput) → IsTrue (q_of (after Rs preset xs)) ↔ IsSetAlone xs
