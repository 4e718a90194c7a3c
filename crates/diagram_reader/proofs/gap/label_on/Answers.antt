use Rattle.std.proofs.Common.{◌≡◌, ℕ, ◌+◌, inl, inr, true, false, not, ◌&&◌, ◌||◌, nat_le, ◌==◌, List, [], ◌∷◌, Option, Some, None, map, refl, sym, ◌∙◌, rules}
use Rattle.std.specs.List.{list_all, list_any}
use Rattle.std.proofs.lemmas.Bool.{and_parts, or_cases, eqb-true, false≢true}
use Rattle.diagram_program.specs.Bytes.{space}
use Rattle.diagram_page.specs.Gap.{Labels, is_gap_blank, is_named, label_in, label_before}
use Rattle.diagram_page.specs.Picture.{Lines, line_at}
use Rattle.diagram_page.proofs.LabelLaws.{blank_line}
use Rattle.diagram_reader.specs.Gap.{bad_label, GapBreaks}
use Rattle.diagram_reader.specs.declared.grid_rule.Rule.{Rule}
use Rattle.diagram_reader.specs.declared.grid_rule.Rule.TheVariants.{BadByte, Unfinished, Grid}
use Rattle.diagram_reader.specs.declared.grid_rule.GridRule.TheVariants as rule
use Rattle.diagram_reader.proofs.gap.label_on.Goals as goal

no_odd_byte : (text : List ℕ) → list_all is_gap_blank text ≡ true → list_any (λ b. not (b == 9 || (nat_le space b && nat_le b 126))) text ≡ false
no_odd_byte [] blank = refl
no_odd_byte (b ∷ bs) blank =
    let parts = and_parts (is_gap_blank b) (list_all is_gap_blank bs) blank in
    elim (or_cases (b == space) (b == 9) parts.0) [
      | inl is ↦ rw (eqb-true b space is) (no_odd_byte bs parts.1)
      | inr is ↦ rw (eqb-true b 9 is) (no_odd_byte bs parts.1)
    ]

not_bad : (before : Option (List ℕ)) (labels : Labels) (text : List ℕ) → list_all is_gap_blank text ≡ true → bad_label before labels (label_in text) text ≡ false
not_bad before labels text blank = rw (← blank_line text blank, blank) refl

kept : (lines : Lines) (from n : ℕ) (unclosed : Option ℕ) (labels : Labels) → list_all is_gap_blank (line_at lines (from + n)) ≡ true → (unclosed ≡ Some (from + n) → ⊥)
    → (r : Rule) → GapBreaks r lines from unclosed labels n → ⊥
kept lines from n unclosed labels blank closed BadByte broken = false≢true (sym (no_odd_byte (line_at lines (from + n)) blank) ∙ broken)
kept lines from n unclosed labels blank closed Unfinished broken = closed broken
kept lines from n unclosed labels blank closed (Grid rule.LabelFault) broken = false≢true (sym (not_bad (label_before lines from n) labels (line_at lines (from + n)) blank) ∙ broken)
kept lines from n unclosed labels blank closed (Grid other) broken = broken

pub returns-then-blank-clause-label : goal.returns-then-blank-clause-label
returns-then-blank-clause-label c = blank_line _ (search rules)

pub returns-then-blank-clause-kept : goal.returns-then-blank-clause-kept
returns-then-blank-clause-kept c = kept (map (λ l. l.now) c.args.lines.now) c.args.from c.args.n c.args.unclosed c.args.labels.now (search rules) (search rules)

named : (lines : Lines) (from n : ℕ) (unclosed : Option ℕ) (labels : Labels) (word : List ℕ)
    → list_any (λ b. not (b == 9 || (nat_le space b && nat_le b 126))) (line_at lines (from + n)) ≡ false → (unclosed ≡ Some (from + n) → ⊥)
    → label_before lines from n ≡ None → label_in (line_at lines (from + n)) ≡ Some word → list_any (is_named word) labels ≡ false
    → (r : Rule) → GapBreaks r lines from unclosed labels n → ⊥
named lines from n unclosed labels word clean closed first label new BadByte broken = false≢true (sym clean ∙ broken)
named lines from n unclosed labels word clean closed first label new Unfinished broken = closed broken
named lines from n unclosed labels word clean closed first label new (Grid rule.LabelFault) broken =
    let good : bad_label (label_before lines from n) labels (label_in (line_at lines (from + n))) (line_at lines (from + n)) ≡ false = rw (first, label) new in
    false≢true (sym good ∙ broken)
named lines from n unclosed labels word clean closed first label new (Grid other) broken = broken

pub returns-in-Some-clause-kept : goal.returns-in-Some-clause-kept
returns-in-Some-clause-kept c =
    named (map (λ l. l.now) c.args.lines.now) c.args.from c.args.n c.args.unclosed c.args.labels.now c.in-Some.word
    (search rules) (search rules) (search rules) (search rules) (search rules)
