-- Cells that one group joins are fed alike.
use Rattle.std.proofs.Common.{◌≡◌, ℕ, ◌+◌, ◌-◌, ◌<◌, ◌≤◌, ◌&&◌, Bool, true, false, min, max, nat_le, refl, sym, ap, ap₂, ◌∙◌, arith, inl, inr}
use Rattle.std.proofs.lemmas.Bool.{cases_lt, and_parts}
use Rattle.diagram_program.specs.declared.geometry.TheConstants.{ROWS}
use Rattle.diagram_program.specs.Program.{Drawing, feeds, joined, site_at, takes_power}
use Rattle.diagram_program.proofs.JoinLaws.{joined_parts}

on_right : (a b : Bool) → b ≡ true → (a && b) ≡ a
on_right true true h = refl
on_right false b h = refl
on_right true false h = cc

on_left : (a b : Bool) → a ≡ true → (a && b) ≡ b
on_left true b h = refl
on_left false b h = cc

module _ (p : Drawing) (j column : ℕ) where
  -- vertical links join all rows from the upper one to the lower one
  abbrev Joins : ℕ → ℕ → Bool
  Joins a b = joined p j (min a b) column (max a b - min a b)

  upward : (a b : ℕ) → a ≤ b → Joins a b ≡ joined p j a column (b - a)
  upward a b h =
      let m : min a b ≡ a = omega arith in
      let n : max a b - min a b ≡ b - a = omega arith in
      ap₂ (λ x y. joined p j x column y) m n

  downward : (a b : ℕ) → b ≤ a → Joins a b ≡ joined p j b column (a - b)
  downward a b h =
      let m : min a b ≡ b = omega arith in
      let n : max a b - min a b ≡ a - b = omega arith in
      ap₂ (λ x y. joined p j x column y) m n

  along : (a b c : ℕ) → a ≤ b → b ≤ c → joined p j a column (c - a) ≡ (joined p j a column (b - a) && joined p j b column (c - b))
  along a b c h k =
      let whole : c - a ≡ (b - a) + (c - b) = omega arith in
      let middle : a + (b - a) ≡ b = omega arith in
      ap (joined p j a column) whole ∙ joined_parts p j a column (b - a) (c - b) ∙ ap (λ x. joined p j a column (b - a) && joined p j x column (c - b)) middle

  -- a row that is joined to one of two joined rows is joined to the other
  joins_alike : (a b x : ℕ) → Joins a b ≡ true → Joins b x ≡ Joins a x
  joins_alike a b x h = elim (cases_lt a b) [
    | inl ab ↦
        let on : joined p j a column (b - a) ≡ true = sym (upward a b (omega arith)) ∙ h in
        elim (cases_lt x b) [
          | inl xb ↦ elim (cases_lt x a) [
            | inl xa ↦ downward b x (omega arith) ∙ along x a b (omega arith) (omega arith) ∙ on_right _ _ on ∙ sym (downward a x (omega arith))
            | inr ax ↦
                let w = and_parts _ _ (sym (along a x b (omega arith) (omega arith)) ∙ on) in
                downward b x (omega arith) ∙ w.1 ∙ sym w.0 ∙ sym (upward a x (omega arith))
          ]
          | inr bx ↦ upward b x (omega arith) ∙ sym (on_left _ _ on) ∙ sym (along a b x (omega arith) (omega arith)) ∙ sym (upward a x (omega arith))
        ]
    | inr ba ↦
        let on : joined p j b column (a - b) ≡ true = sym (downward a b (omega arith)) ∙ h in
        elim (cases_lt x b) [
          | inl xb ↦ downward b x (omega arith) ∙ sym (on_right _ _ on) ∙ sym (along x b a (omega arith) (omega arith)) ∙ sym (downward a x (omega arith))
          | inr bx ↦ elim (cases_lt x a) [
            | inl xa ↦
                let w = and_parts _ _ (sym (along b x a (omega arith) (omega arith)) ∙ on) in
                upward b x (omega arith) ∙ w.0 ∙ sym w.1 ∙ sym (downward a x (omega arith))
            | inr ax ↦ upward b x (omega arith) ∙ along b a x (omega arith) (omega arith) ∙ on_left _ _ on ∙ sym (upward a x (omega arith))
          ]
        ]
  ]

pub group : (p : Drawing) (j column row q : ℕ) → row < ROWS → q < ROWS → feeds p j row (column + 1) q ≡ true → (x : ℕ) → x < ROWS
    → feeds p j q (column + 1) x ≡ feeds p j row (column + 1) x
group p j column row q r h fed x lt =
    let from = site_at p j q (column + 1 - 1) in
    let joint = site_at p j q (column + 1) in
    let join : Bool = joined p j (min row q) (column + 1) (max row q - min row q) in
    let a = and_parts (nat_le 1 (column + 1)) (from.right_link && (takes_power joint.joint && join)) fed in
    let b = and_parts from.right_link (takes_power joint.joint && join) a.1 in
    let c = and_parts (takes_power joint.joint) join b.1 in
    ap (λ (t : Bool). nat_le 1 (column + 1) && ((site_at p j x (column + 1 - 1)).right_link && (takes_power (site_at p j x (column + 1)).joint && t)))
    (joins_alike p j (column + 1) row q x c.1)

-- a cell that feeds a group feeds that of its own joint
pub fed_on : (p : Drawing) (j column row q : ℕ) → row < ROWS → q < ROWS → feeds p j row (column + 1) q ≡ true → feeds p j q (column + 1) q ≡ true
fed_on p j column row q r h fed = group p j column row q r h fed q h ∙ fed
