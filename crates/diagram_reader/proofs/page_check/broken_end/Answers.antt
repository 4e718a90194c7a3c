use Rattle.std.proofs.Common.{◌≡◌, ℕ, zero, suc, ◌+◌, ◌-◌, ◌<◌, inl, inr, List, Option, Some, None, length, refl, sym, ap, ◌∙◌, arith, rules}
use Rattle.std.specs.Option.{option_or, is_some}
use Rattle.std.proofs.lemmas.Bool.{cases_lt, false≢true}
use Rattle.std.proofs.lemmas.Grind.{common_steps}
use Rattle.diagram_page.specs.Gap.{Labels, label_in, label_before}
use Rattle.diagram_page.specs.Lines.{last_gap}
use Rattle.diagram_page.specs.Page.{Page, labels_of}
use Rattle.diagram_page.specs.Picture.{Lines, line_at}
use Rattle.diagram_page.specs.Seen.{seen}
use Rattle.diagram_reader.specs.Gap.{IsSoundGap}
use Rattle.diagram_reader.specs.PageRules.{EndBreaks}
use Rattle.diagram_reader.specs.declared.grid_rule.Rule.{Rule}
use Rattle.diagram_reader.proofs.page_check.broken_end.Goals as goal

-- of two that give none, neither has one
neither : (x y : Option (List ℕ)) → option_or x y ≡ None → (x ≡ None) × (y ≡ None)
neither None y h = (refl, h)
neither (Some x) y h = absurd cc

-- a gap without a label has none on any of its lines
no_label : (lines : Lines) (from n : ℕ) → label_before lines from n ≡ None → (k : ℕ) → k < n → label_in (line_at lines (from + k)) ≡ None
unfolding label_before
no_label lines from zero none k below = absurd (omega arith)
no_label lines from (suc n) none k below =
    let both = neither (label_before lines from n) (label_in (line_at lines (from + n))) none in
    elim (cases_lt k n) [
      | inl less ↦ no_label lines from n both.0 k less
      | inr more ↦ let last : k ≡ n = omega arith in rw last both.1
    ]

end_kept : (page : Page) (labels : Labels) (from count : ℕ) → from ≡ last_gap page.parts → count ≡ length page.lines - from → labels ≡ labels_of page.lines page.parts
    → IsSoundGap page.lines from page.unclosed labels count → label_before page.lines from count ≡ None → (row : Rule) (line : ℕ) → EndBreaks row page line → ⊥
unfolding EndBreaks
end_kept page labels from count is_from is_count is_known kept none row line broken =
    let n : ℕ = broken.0 in
    let below : n < count = omega (arith, broken.2) in
    elim broken.3 [
      | inl gap ↦ kept n below row (rw (is_from, is_known) gap)
      | inr label ↦ false≢true (sym (ap is_some (rw is_from at (no_label page.lines from count none n below))) ∙ label.1)
    ]

pub returns-in-Ok-None-clause-none : goal.returns-in-Ok-None-clause-none
returns-in-Ok-None-clause-none c =
    end_kept (seen c.args.page) c.args.labels.now c.last_gap-from.result _ (search rules) (first_of (search rules, grind (arith, common_steps))) (search rules) c.in-Ok-None.ensures.kept (first_of (search rules, grind (arith, common_steps)))
