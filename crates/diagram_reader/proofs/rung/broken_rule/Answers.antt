use Rattle.std.proofs.Common.{◌≡◌, ℕ, ◌<◌, ◌≤◌, length, map, true, arith, sym, ap, ◌∙◌}
use Rattle.std.proofs.lemmas.List.{length-map}
use Rattle.diagram_program.specs.declared.geometry.TheConstants.{LINES}
use Rattle.diagram_page.specs.Picture.{Lines}
use Rattle.diagram_page.specs.Page.{Page, rung_at}
use Rattle.diagram_page.specs.Seen.{seen}
use Rattle.diagram_reader.specs.Checks.{IsBrokenOn, IsKept, is_dirty_at, is_wide_at}
use Rattle.diagram_reader.specs.Rung.{RungBreaks}
use Rattle.diagram_reader.specs.declared.grid_rule.GridRule.{GridRule}
use Rattle.diagram_reader.specs.declared.grid_rule.GridRule.TheVariants as rule
use Rattle.diagram_reader.specs.declared.grid_rule.Rule.{Rule}
use Rattle.diagram_reader.specs.declared.grid_rule.Rule.TheVariants.{BadByte, Unfinished, Grid}
use Rattle.diagram_reader.proofs.PlaceRules.{nowhere_wide, nowhere_tall, nowhere_label, nowhere_many}
use Rattle.diagram_reader.proofs.rung.broken_rule.Goals as goal

module _ (page : Page) (k : ℕ) (rung : Lines) (same : rung ≡ rung_at page k) (size : ℕ) (whole : length rung ≡ size)
    (clean : (line : ℕ) → line < size → is_dirty_at rung line ≡ true → ⊥)
    (low : size ≤ LINES)
    (narrow : (line : ℕ) → line < size → is_wide_at rung line ≡ true → ⊥)
    (kept : (r : GridRule) → IsKept page k r) where
  long : length (rung_at page k) ≡ size
  long = ap length (sym same) ∙ whole

  all_kept : (r : Rule) (line : ℕ) → RungBreaks r page k line → ⊥
  all_kept BadByte line h = clean line (omega (arith, h.0, long)) (ap (λ ls. is_dirty_at ls line) same ∙ h.1)
  all_kept Unfinished line h = h
  all_kept (Grid rule.TooTall) line h = absurd (omega (arith, h.1, low, long))
  all_kept (Grid rule.TooWide) line h = narrow line (omega (arith, h.0, long)) (ap (λ ls. is_wide_at ls line) same ∙ h.1)
  all_kept (Grid rule.BadCell) line h = kept rule.BadCell h.0 h.2 h.1 h.4
  all_kept (Grid rule.BadJoint) line h = kept rule.BadJoint h.0 h.2 h.1 h.4
  all_kept (Grid rule.BrokenVertical) line h = kept rule.BrokenVertical h.0 h.2 h.1 h.4
  all_kept (Grid rule.Unfed) line h = kept rule.Unfed h.0 h.2 h.1 h.4
  all_kept (Grid rule.NameMissing) line h = kept rule.NameMissing h.0 h.2 h.1 h.4
  all_kept (Grid rule.NameWithoutSymbol) line h = kept rule.NameWithoutSymbol h.0 h.2 h.1 h.4
  all_kept (Grid rule.Undeclared) line h = kept rule.Undeclared h.0 h.2 h.1 h.4
  all_kept (Grid rule.WrongKind) line h = kept rule.WrongKind h.0 h.2 h.1 h.4
  all_kept (Grid rule.BlockShape) line h = kept rule.BlockShape h.0 h.2 h.1 h.4
  all_kept (Grid rule.DrawnTwice) line h = kept rule.DrawnTwice h.0 h.2 h.1 h.4
  all_kept (Grid rule.LabelFault) line h = nowhere_label page k h.0 h.1 h.4.0 h.4.2
  all_kept (Grid rule.TwoJumps) line h = kept rule.TwoJumps h.0 h.2 h.1 h.4
  all_kept (Grid rule.TooManyRungs) line h = nowhere_many page k h.0 h.1 h.4.0 h.4.2

pub returns-in-None-clause-none : goal.returns-in-None-clause-none
returns-in-None-clause-none c = all_kept (seen c.args.page) c.args.rung (map (λ l. l.now) c.rung_at-lines.result.now) c.rung_at-lines.ensures.value (length c.rung_at-lines.result.now)
    (length-map c.rung_at-lines.result.now _)
    c.in_default.ensures.none c.if-lines-gt-LINES.false c.in_default-wide_line.ensures.none c.in-None.ensures.none

-- a rule that is broken at a place is none of those of lines
placed : (page : Page) (k : ℕ) (r : GridRule) (line : ℕ) → IsBrokenOn r page k line → RungBreaks (Grid r) page k line
placed page k rule.TooTall line h = absurd (nowhere_tall page k h.0 h.1 h.4.0 h.4.2)
placed page k rule.TooWide line h = absurd (nowhere_wide page k h.0 h.1 h.4.0 h.4.2)
placed page k _ line h = h

pub returns-in-Some-broken_place-clause-some : goal.returns-in-Some-broken_place-clause-some
returns-in-Some-broken_place-clause-some c =
    placed (seen c.args.page) c.args.rung c.in-Some-broken_place.rule c.in-Some-broken_place.line c.in-Some-broken_place.ensures.some
