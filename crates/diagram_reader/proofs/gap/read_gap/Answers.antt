use Rattle.std.proofs.Common.{◌≡◌, ℕ, ◌+◌, List, Option, None, add-one, refl, ap, ◌∙◌, below_more, arith}
use Rattle.std.specs.Option.{option_or}
use Rattle.diagram_page.specs.Gap.{label_in, label_before}
use Rattle.diagram_page.specs.Picture.{Lines, line_at}
use Rattle.diagram_reader.proofs.gap.read_gap.Goals as goal

none_yet : (lines : Lines) (from : ℕ) → None ≡ label_before lines from 0
unfolding label_before
none_yet lines from = refl

one_more : (lines : Lines) (from n : ℕ) (before : Option (List ℕ)) → before ≡ label_before lines from n
    → option_or before (label_in (line_at lines (from + n))) ≡ label_before lines from (n + 1)
unfolding label_before
one_more lines from n before h = rw (add-one, h) refl

pub loop-n-init : goal.loop-n-init
loop-n-init c = record { known = none_yet _ _; kept = λ k below. absurd (omega arith) }

pub loop-n-preserved : goal.loop-n-preserved
loop-n-preserved c = record {
  known = c.first_of-first.ensures ∙ ap (option_or c.loop-n.label) c.in-Ok.ensures.label ∙ one_more _ _ _ _ c.loop-n.invariant.known;
  kept = below_more _ _ c.loop-n.invariant.kept c.in-Ok.ensures.kept;
}
