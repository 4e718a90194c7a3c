-- What bistables answer after a list of steps.
use Rattle.std.proofs.Common.{◌≡◌, ℕ, Bool, true, false, List, [], ◌∷◌, ◌++◌, not, ◌&&◌, ◌||◌, refl, sym, ap, ◌∙◌, zero, suc, arith, All}
use Rattle.diagram_declarations.specs.declared.kind.BlockKind.TheVariants.{Sr, Rs}
use Rattle.scan_signals.specs.declared.block.Stored.TheVariants.{Bistable}
use Rattle.scan_signals.specs.Blocks.{step, q_of}
use Rattle.scan_signals.specs.Histories.{StepInput, after, IsSet, IsSetAlone, SrHistory, RsHistory}

abbrev IsNotReset : StepInput → Type 0
IsNotReset y = y.second ≡ false

all_more : (x : StepInput) (xs : List StepInput) → IsNotReset x → All IsNotReset xs → All IsNotReset (x ∷ xs)
all_more x xs e h zero d lt = e
all_more x xs e h (suc k) d lt = h k d (omega (arith, lt))

all_none : All IsNotReset []
all_none k d lt = absurd (omega (arith, lt))

all_rest : (x : StepInput) (xs : List StepInput) → All IsNotReset (x ∷ xs) → All IsNotReset xs
all_rest x xs h k d lt = h (suc k) d (omega (arith, lt))

all_first : (x : StepInput) (xs : List StepInput) → All IsNotReset (x ∷ xs) → IsNotReset x
all_first x xs h = h 0 x (omega arith)

-- one more step without a reset
abbrev more : (x : StepInput) (xs : List StepInput) → IsNotReset x → IsSet xs → IsSet (x ∷ xs)
more x xs e s = record {
  later = x ∷ s.later;
  at = s.at;
  older = s.older;
  steps = ap (λ (l : List StepInput). x ∷ l) s.steps;
  set = s.set;
  not_reset = all_more x s.later e s.not_reset;
}

abbrev first : (x : StepInput) (older : List StepInput) → x.on ≡ true → IsSet (x ∷ older)
first x older e = record { later = []; at = x; older = older; steps = refl; set = e; not_reset = all_none }

-- ---- SR
abbrev sr_q : Bool → Bool → Bool → Bool
sr_q q set reset = set || (not reset && q)

unfoldable sr_after : List StepInput → Bool
sr_after [] = false
sr_after (x ∷ older) = sr_q (sr_after older) x.on x.second

sr_is : (preset : ℕ) (xs : List StepInput) → after Sr preset xs ≡ Bistable (sr_after xs)
unfolding after step sr_after
sr_is preset [] = refl
sr_is preset (x ∷ older) = ap (λ s. step Sr preset s x.on x.second x.now) (sr_is preset older)

sr_step : (x : StepInput) (older : List StepInput) (q on second : Bool) → x.on ≡ on → x.second ≡ second → sr_q q on second ≡ true
    → (q ≡ true → IsSet older) → IsSet (x ∷ older)
sr_step x older q true second e r h was = first x older e
sr_step x older true false false e r h was = more x older r (was refl)
sr_step x older true false true e r h was = cc
sr_step x older false false false e r h was = cc
sr_step x older false false true e r h was = cc

sr_set : (xs : List StepInput) → sr_after xs ≡ true → IsSet xs
unfolding sr_after
sr_set [] h = cc
sr_set (x ∷ older) h = sr_step x older (sr_after older) x.on x.second refl refl h (sr_set older)

sr_begins : (q second : Bool) (on : Bool) → on ≡ true → sr_q q on second ≡ true
sr_begins q second on e = grind arith

sr_stays : (q on second : Bool) → q ≡ true → second ≡ false → sr_q q on second ≡ true
sr_stays q on second e r = grind arith

sr_on : (later : List StepInput) (at : StepInput) (older : List StepInput) → at.on ≡ true → All IsNotReset later → sr_after (later ++ at ∷ older) ≡ true
unfolding sr_after
sr_on [] at older e h = sr_begins (sr_after older) at.second at.on e
sr_on (x ∷ later) at older e h =
    sr_stays (sr_after (later ++ at ∷ older)) x.on x.second (sr_on later at older e (all_rest x later h)) (all_first x later h)

pub sr_history : SrHistory
sr_history preset xs =
    let e : q_of (after Sr preset xs) ≡ sr_after xs = ap q_of (sr_is preset xs) in
    (λ h. sr_set xs (sym e ∙ h), λ s. e ∙ (ap sr_after s.steps ∙ sr_on s.later s.at s.older s.set s.not_reset))

-- ---- RS
abbrev rs_q : Bool → Bool → Bool → Bool
rs_q q set reset = not reset && (set || q)

unfoldable rs_after : List StepInput → Bool
rs_after [] = false
rs_after (x ∷ older) = rs_q (rs_after older) x.on x.second

rs_is : (preset : ℕ) (xs : List StepInput) → after Rs preset xs ≡ Bistable (rs_after xs)
unfolding after step rs_after
rs_is preset [] = refl
rs_is preset (x ∷ older) = ap (λ s. step Rs preset s x.on x.second x.now) (rs_is preset older)

rs_step : (x : StepInput) (older : List StepInput) (q on second : Bool) → x.on ≡ on → x.second ≡ second → rs_q q on second ≡ true
    → (q ≡ true → IsSetAlone older) → IsSetAlone (x ∷ older)
rs_step x older q true false e r h was = record { is_set = first x older e; alone = r }
rs_step x older q true true e r h was = cc
rs_step x older true false false e r h was =
    let s : IsSetAlone older = was refl in
    record { is_set = more x older r s.is_set; alone = s.alone }
rs_step x older false false false e r h was = cc
rs_step x older q false true e r h was = cc

rs_set : (xs : List StepInput) → rs_after xs ≡ true → IsSetAlone xs
unfolding rs_after
rs_set [] h = cc
rs_set (x ∷ older) h = rs_step x older (rs_after older) x.on x.second refl refl h (rs_set older)

rs_begins : (q on second : Bool) → on ≡ true → second ≡ false → rs_q q on second ≡ true
rs_begins q on second e r = grind arith

rs_stays : (q on second : Bool) → q ≡ true → second ≡ false → rs_q q on second ≡ true
rs_stays q on second e r = grind arith

rs_on : (later : List StepInput) (at : StepInput) (older : List StepInput) → at.on ≡ true → at.second ≡ false → All IsNotReset later
    → rs_after (later ++ at ∷ older) ≡ true
unfolding rs_after
rs_on [] at older e r h = rs_begins (rs_after older) at.on at.second e r
rs_on (x ∷ later) at older e r h =
    rs_stays (rs_after (later ++ at ∷ older)) x.on x.second (rs_on later at older e r (all_rest x later h)) (all_first x later h)

pub rs_history : RsHistory
rs_history preset xs =
    let e : q_of (after Rs preset xs) ≡ rs_after xs = ap q_of (rs_is preset xs) in (
      λ h. rs_set xs (sym e ∙ h),
      λ s. e ∙ (ap rs_after s.is_set.steps ∙ rs_on s.is_set.later s.is_set.at s.is_set.older s.is_set.set s.alone s.is_set.not_reset),
    )
