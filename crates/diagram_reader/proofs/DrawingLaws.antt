-- When no rule is broken on a page.
use Rattle.std.proofs.Common.{◌≡◌, ℕ, ◌+◌, ◌<◌, ◌≤◌, ◌++◌, List, [], ◌∷◌, inl, inr, length, take, Option, refl, arith}
use Rattle.std.proofs.lemmas.List.{take_more, map-append}
use Rattle.std.proofs.lemmas.Bool.{cases_lt}
use Rattle.diagram_program.specs.declared.geometry.TheConstants.{RUNGS}
use Rattle.diagram_reader.specs.declared.grid_rule.Rule.TheVariants.{Grid}
use Rattle.diagram_reader.specs.declared.grid_rule.GridRule.TheVariants as rule
use Rattle.diagram_page.specs.declared.lines.Part.{Part}
use Rattle.diagram_reader.specs.declared.grid_rule.Rule.{Rule}
use Rattle.diagram_page.specs.Picture.{Lines}
use Rattle.diagram_page.specs.Gap.{Labels}
use Rattle.diagram_page.specs.Lines.{part_in}
use Rattle.diagram_page.specs.Page.{Page, labels_of}
use Rattle.diagram_reader.specs.Checks.{label_of}
use Rattle.diagram_reader.specs.PageRules.{PartBreaks, EndBreaks, TargetBreaks}
use Rattle.diagram_reader.specs.Stops.{IsSoundPage}

pub labels_more : (lines : Lines) (parts : List Part) (k : ℕ) (labels : Labels) (x : Option (List ℕ)) → k < length parts
    → labels ≡ labels_of lines (take k parts) → x ≡ label_of lines (part_in parts k) → labels ++ x ∷ [] ≡ labels_of lines (take (k + 1) parts)
labels_more lines parts k labels x below before here =
    let more : take (k + 1) parts ≡ take k parts ++ part_in parts k ∷ [] = take_more parts k (record { from = 0; start = 0; end = 0 }) below in
    rw (more, map-append (label_of lines) (take k parts) (part_in parts k ∷ []), before, here) refl

module _ (page : Page)
    (parts : (k : ℕ) → k < length page.parts → (r : Rule) (line : ℕ) → PartBreaks r page k line → ⊥)
    (end : (r : Rule) (line : ℕ) → EndBreaks r page line → ⊥)
    (targets : (k : ℕ) → k < length page.parts → (line : ℕ) → TargetBreaks page k line → ⊥) where
  pub sound_page : IsSoundPage page
  sound_page r rung line (inl h) = parts rung h.0 r line h.1
  sound_page r rung line (inr (inl h)) = end r line h.1
  sound_page r rung line (inr (inr h)) = targets rung h.1 line h.2

-- A page on which no rule is broken has at most a hundred rungs.
pub few_rungs : (page : Page) → IsSoundPage page → length page.parts ≤ RUNGS
unfolding PartBreaks
few_rungs page sound = elim (cases_lt RUNGS (length page.parts)) [
  | inl many ↦ absurd (sound (Grid rule.TooManyRungs) RUNGS (part_in page.parts RUNGS).start (inl (many, inr (inl (refl, refl, refl)))))
  | inr few ↦ omega (arith, few)
]
