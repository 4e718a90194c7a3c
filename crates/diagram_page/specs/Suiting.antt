-- Private: blocks as the tables of a page have them.
use Rattle.std.specs.Prelude.{◌≡◌, ℕ, slice_get, option_and_then, option_map, Option, Some, None}
use Rattle.diagram_declarations.specs.Decls.{Declared}
use Rattle.diagram_declarations.specs.declared.kind.BlockKind.{BlockKind}
use Rattle.diagram_page.specs.declared.form.Form.{Form}
use Rattle.diagram_page.specs.declared.form.Form.TheVariants.{Block}
use Rattle.diagram_page.specs.declared.operand.Reference.{Reference}
use Rattle.diagram_page.specs.Operand.{instance_on}

abbrev pub kind_drawn : Option Form → Option BlockKind
kind_drawn (Some (Block kind)) = Some kind
kind_drawn form = None

-- By this form and this name the instance is drawn: the name is that of the instance alone, and the instance is of the kind that is drawn.
abbrev pub DrawsBlock : Declared → Option Form → Option Reference → ℕ → Type 0
DrawsBlock decls form name inst =
    (instance_on form (option_map (λ x. x.symbol) name) ≡ Some inst) × (option_and_then (λ x. x.output) name ≡ None)
    × (option_map (λ x. x.kind) (slice_get decls.instances inst) ≡ kind_drawn form)
