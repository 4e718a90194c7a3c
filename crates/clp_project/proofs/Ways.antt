-- The rungs of a section, one more at each step.
use Rattle.std.proofs.Common.{◌≡◌, ◌∙◌, ◌==◌, ◌+◌, ◌-◌, ◌<◌, ◌++◌, ◌∷◌, [], ℕ, suc, Bool, true, false, List, Option, Some, None, find, ap, sym, refl, arith, append_assoc}
use Rattle.std.specs.Prelude.{option_map}
use Rattle.clp_project.specs.declared.rung.ClpRung.{ClpRung}
use Rattle.clp_project.specs.declared.order.Placed.{Placed}
use Rattle.clp_project.specs.Order.{placed_in, step_on, way}
use Rattle.clp_project.specs.Rungs.{joined}

step_none : (section : ℕ) (ends : Bool) (onward : ℕ → Option (List Placed)) → step_on section ends None onward ≡ None
step_none section true onward = refl
step_none section false onward = refl

step_first : (section last : ℕ) (rungs : List ClpRung) (n i number : ℕ) → i < n
    → way section last rungs (n - i) number ≡ step_on section (number == last) (find (λ r. r.number == number) rungs) (λ next. way section last rungs (n - (i + 1)) next)
step_first section last rungs n i number h =
    let more : n - i ≡ suc (n - (i + 1)) = omega arith in
    ap (λ k. way section last rungs k number) more

pub no_rung : (whole : Option (List Placed)) (mine : List Placed) (section last : ℕ) (rungs : List ClpRung) (n i number : ℕ) → i < n
    → find (λ r. r.number == number) rungs ≡ None → whole ≡ joined (Some mine) (way section last rungs (n - i) number) → whole ≡ None
no_rung whole mine section last rungs n i number h none before =
    before ∙ ap (joined (Some mine)) (step_first section last rungs n i number h
    ∙ ap (λ o. step_on section (number == last) o (λ next. way section last rungs (n - (i + 1)) next)) none
    ∙ step_none section (number == last) (λ next. way section last rungs (n - (i + 1)) next))

pub no_next : (whole : Option (List Placed)) (mine : List Placed) (section last : ℕ) (rungs : List ClpRung) (n i number : ℕ) (rung : ClpRung) → i < n
    → find (λ r. r.number == number) rungs ≡ Some rung → (number == last) ≡ false → rung.next ≡ None
    → whole ≡ joined (Some mine) (way section last rungs (n - i) number) → whole ≡ None
no_next whole mine section last rungs n i number rung h found other none before =
    let onward : ℕ → Option (List Placed) = λ next. way section last rungs (n - (i + 1)) next in
    before ∙ ap (joined (Some mine)) (step_first section last rungs n i number h
    ∙ ap (λ o. step_on section (number == last) o onward) found
    ∙ ap (λ b. step_on section b (Some rung) onward) other
    ∙ ap (λ o. elim o as (λ _. Option (List Placed)) [ Some next ↦ option_map (λ rest. placed_in section rung ∷ rest) (onward next) | None ↦ None ]) none)

pub last_rung : (whole : Option (List Placed)) (mine : List Placed) (section last : ℕ) (rungs : List ClpRung) (n i number : ℕ) (rung : ClpRung) → i < n
    → find (λ r. r.number == number) rungs ≡ Some rung → (number == last) ≡ true
    → whole ≡ joined (Some mine) (way section last rungs (n - i) number) → whole ≡ Some (mine ++ placed_in section rung ∷ [])
last_rung whole mine section last rungs n i number rung h found same before =
    let onward : ℕ → Option (List Placed) = λ next. way section last rungs (n - (i + 1)) next in
    before ∙ ap (joined (Some mine)) (step_first section last rungs n i number h
    ∙ ap (λ o. step_on section (number == last) o onward) found
    ∙ ap (λ b. step_on section b (Some rung) onward) same)

one_more : (mine : List Placed) (p : Placed) (others : Option (List Placed)) → joined (Some mine) (option_map (λ rest. p ∷ rest) others) ≡ joined (Some (mine ++ p ∷ [])) others
one_more mine p (Some rest) = ap Some (sym (append_assoc mine (p ∷ []) rest))
one_more mine p None = refl

pub next_rung : (whole : Option (List Placed)) (mine : List Placed) (section last : ℕ) (rungs : List ClpRung) (n i number next : ℕ) (rung : ClpRung) → i < n
    → find (λ r. r.number == number) rungs ≡ Some rung → (number == last) ≡ false → rung.next ≡ Some next
    → whole ≡ joined (Some mine) (way section last rungs (n - i) number)
    → whole ≡ joined (Some (mine ++ placed_in section rung ∷ [])) (way section last rungs (n - (i + 1)) next)
next_rung whole mine section last rungs n i number next rung h found other is before =
    let onward : ℕ → Option (List Placed) = λ next. way section last rungs (n - (i + 1)) next in
    before ∙ ap (joined (Some mine)) (step_first section last rungs n i number h
    ∙ ap (λ o. step_on section (number == last) o onward) found
    ∙ ap (λ b. step_on section b (Some rung) onward) other
    ∙ ap (λ o. elim o as (λ _. Option (List Placed)) [ Some next ↦ option_map (λ rest. placed_in section rung ∷ rest) (onward next) | None ↦ None ]) is)
    ∙ one_more mine (placed_in section rung) (onward next)
