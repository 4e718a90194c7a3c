use Rattle.std.proofs.Common.{ℕ, [], ◌∷◌, Option, Some, None}
use Rattle.std.specs.List.{AllByRecursion}
use Rattle.std.specs.Option.{IfNone}
use Rattle.diagram_page.specs.Page.{Page}
use Rattle.diagram_reader.specs.Checks.{IsKept}
use Rattle.diagram_reader.specs.declared.grid_rule.GridRule.{GridRule}
use Rattle.diagram_reader.specs.declared.grid_rule.GridRule.TheVariants as rule
use Rattle.diagram_reader.proofs.PlaceRules.{nowhere_wide, nowhere_tall, nowhere_label, nowhere_many}
use Rattle.diagram_reader.proofs.rules.broken_place.Goals as goal

-- the list has every rule of places; the others are broken at none
all_kept : (page : Page) (k : ℕ)
    → AllByRecursion (IsKept page k) (rule.BadCell ∷ rule.BadJoint ∷ rule.BrokenVertical ∷ rule.Unfed ∷ rule.NameMissing
    ∷ rule.NameWithoutSymbol ∷ rule.Undeclared ∷ rule.WrongKind ∷ rule.BlockShape ∷ rule.DrawnTwice ∷ rule.TwoJumps ∷ [])
    → (r : GridRule) → IsKept page k r
all_kept page k h rule.BadCell = h.0
all_kept page k h rule.BadJoint = h.1.0
all_kept page k h rule.BrokenVertical = h.1.1.0
all_kept page k h rule.Unfed = h.1.1.1.0
all_kept page k h rule.NameMissing = h.1.1.1.1.0
all_kept page k h rule.NameWithoutSymbol = h.1.1.1.1.1.0
all_kept page k h rule.Undeclared = h.1.1.1.1.1.1.0
all_kept page k h rule.WrongKind = h.1.1.1.1.1.1.1.0
all_kept page k h rule.BlockShape = h.1.1.1.1.1.1.1.1.0
all_kept page k h rule.DrawnTwice = h.1.1.1.1.1.1.1.1.1.0
all_kept page k h rule.TwoJumps = h.1.1.1.1.1.1.1.1.1.1.0
all_kept page k h rule.TooWide = λ r rows h broken. nowhere_wide page k r h broken.0 broken.2
all_kept page k h rule.TooTall = λ r rows h broken. nowhere_tall page k r h broken.0 broken.2
all_kept page k h rule.LabelFault = λ r rows h broken. nowhere_label page k r h broken.0 broken.2
all_kept page k h rule.TooManyRungs = λ r rows h broken. nowhere_many page k r h broken.0 broken.2

if_none : {A : Type 0} {P Q : Type 0} → (P → Q) → (o : Option A) → IfNone o P → IfNone o Q
if_none f None h = f h
if_none f (Some x) h = tt

pub returns-clause-none : goal.returns-clause-none
returns-clause-none c = if_none (all_kept _ _) _ c.first_broken.ensures.none
