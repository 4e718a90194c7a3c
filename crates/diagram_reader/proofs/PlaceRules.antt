-- Rules that speak of no place.
use Rattle.std.proofs.Common.{ℕ}
use Rattle.diagram_page.specs.declared.picture.Half.{Half}
use Rattle.diagram_page.specs.declared.picture.Half.TheVariants as half
use Rattle.diagram_reader.specs.declared.grid_rule.GridRule.TheVariants as rule
use Rattle.diagram_page.specs.Page.{Page}
use Rattle.diagram_reader.specs.Rules.{BreaksAt}

pub nowhere_wide : (page : Page) (k r : ℕ) (h : Half) (c : ℕ) → BreaksAt rule.TooWide page k r h c → ⊥
nowhere_wide page k r half.Name c broken = broken.1
nowhere_wide page k r half.Wire c broken = broken.1

pub nowhere_tall : (page : Page) (k r : ℕ) (h : Half) (c : ℕ) → BreaksAt rule.TooTall page k r h c → ⊥
nowhere_tall page k r half.Name c broken = broken.1
nowhere_tall page k r half.Wire c broken = broken.1

pub nowhere_label : (page : Page) (k r : ℕ) (h : Half) (c : ℕ) → BreaksAt rule.LabelFault page k r h c → ⊥
nowhere_label page k r half.Name c broken = broken.1
nowhere_label page k r half.Wire c broken = broken.1

pub nowhere_many : (page : Page) (k r : ℕ) (h : Half) (c : ℕ) → BreaksAt rule.TooManyRungs page k r h c → ⊥
nowhere_many page k r half.Name c broken = broken.1
nowhere_many page k r half.Wire c broken = broken.1
