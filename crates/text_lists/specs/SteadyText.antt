-- The text of what never changes: the names that stay OFF, or that stay ON, with the places where they are drawn.
use Rattle.std.specs.Prelude.{◌∷◌, ℕ, Bool, true, false, not, List, [], codes, if◌then◌else◌}
use Rattle.std.specs.List.{flat_map}
use Rattle.diagram_declarations.specs.declared.decls.Symbol.{Symbol}
use Rattle.diagram_declarations.specs.declared.decls.Symbol.TheVariants as symbol
use Rattle.diagram_program.specs.Program.{Drawing}
use Rattle.invariant_sets.specs.Never.{Bits, claims}
use Rattle.io_text.specs.Left.{Fields}
use Rattle.io_text.specs.Text.{lines_text}
use Rattle.scan_signals.specs.declared.tri.Tri.{Tri}
use Rattle.scan_signals.specs.declared.tri.Tri.TheVariants.{Off, On, Unsure}
use Rattle.text_cross_reference.specs.Uses.{symbol_rows, symbols_of}

-- what is claimed of a variable, or of the output of an instance
abbrev pub claim_of : Bits → Symbol → Tri
claim_of z (symbol.Var var) = claims z.variables var
claim_of z (symbol.Instance inst) = claims z.instances inst

-- It is claimed that it has this value.
abbrev pub is_claimed : Bool → Tri → Bool
is_claimed value On = value
is_claimed value Off = not value
is_claimed value Unsure = false

-- The rows of the cross-reference for a name that stays at the value, and none for any other.
abbrev pub claimed_rows : Drawing → Bits → Bool → Symbol → List Fields
claimed_rows p z value s = if is_claimed value (claim_of z s) then symbol_rows p s else []

-- the rows after the header, all variables first
abbrev pub steady_rows : Drawing → Bits → Bool → List Fields
steady_rows p z value = flat_map (claimed_rows p z value) (symbols_of p.decls)

-- the text that is written: a header, and these rows
abbrev pub steady_text : Drawing → Bits → Bool → List ℕ
steady_text p z value = lines_text ((codes "name" ∷ codes "use" ∷ codes "rung" ∷ codes "row" ∷ codes "column" ∷ []) ∷ steady_rows p z value)
