-- A vertical link with a loose end, computed.
use Rattle.std.proofs.Common.{◌≡◌, [], ◌∷◌, codes, refl, true, false, None, length, arith}
use Rattle.diagram_declarations.specs.Decls.{Declared}
use Rattle.diagram_page.specs.Lines.{rung_of}
use Rattle.diagram_page.specs.Page.{Page}
use Rattle.diagram_page.specs.Picture.{Lines}
use Rattle.diagram_page.specs.ReadLines.{page}
use Rattle.diagram_page.specs.declared.picture.Half.TheVariants as half
use Rattle.diagram_page.proofs.Examples.{bridged}
use Rattle.diagram_reader.specs.Rules.{CellBreaks}
use Rattle.diagram_reader.specs.declared.grid_rule.GridRule.TheVariants as rule

-- a contact that another one bridges, without a branch on the first row
loose : Lines
loose = codes "|     A           Y" ∷ codes "|----| |---------( )----" ∷ codes "|     A     |" ∷ codes "|----| |----+" ∷ []

-- the lines as the one rung of a page
abbrev drawn : Declared → Lines → Page
drawn decls lines = page decls lines None (record { from = 0; start = 0; end = length lines } ∷ []) []

off_on : false ≡ true → ⊥
off_on h = cc

closed_vertical : (decls : Declared) → CellBreaks rule.BrokenVertical half.Name (drawn decls bridged) 0 1 1 → ⊥
unfolding bridged rung_of
closed_vertical decls h = off_on h.1

loose_vertical : (decls : Declared) → CellBreaks rule.BrokenVertical half.Name (drawn decls loose) 0 1 1
unfolding loose rung_of
loose_vertical decls = (omega arith, refl)
