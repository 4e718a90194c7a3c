-- One part more of an interface.
use Rattle.std.proofs.Common.{◌≡◌, ℕ, List, ◌∷◌, Option, Some, map, subst, sym}
use Rattle.std.specs.Option.{IfSome}
use Rattle.st_program.specs.declared.program.StInstance.{StInstance}
use Rattle.st_program.specs.declared.symbols.StVariable.{StVariable}
use Rattle.xml_document.specs.declared.document.Document.{Document}
use Rattle.xml_parts.specs.declared.elements.Part.{Part}
use Rattle.xml_parts.specs.Parts.{part_of}
use Rattle.plc_declarations.specs.Declarations.{DeclareAll, DeclarePart}

pub all_more : (text : List ℕ) (d : Document) (parts : List Part) (part : Part) (rest : List Part) (xs after others : List StVariable)
    (is behind more : List StInstance) → parts ≡ part ∷ rest → DeclarePart text (part_of d part) xs after is behind
    → DeclareAll text (map (part_of d) rest) after others behind more → DeclareAll text (map (part_of d) parts) xs others is more
all_more text d parts part rest xs after others is behind more whole one others_do =
    subst (λ (ps : List Part). DeclareAll text (map (part_of d) ps) xs others is more) (sym whole) (after, behind, one, others_do)

pub of_some : {X : Type 0} (o : Option X) (x : X) (P : X → Type 0) → o ≡ Some x → IfSome o P → P x
of_some {X = X} o x P is holds = subst (λ (y : Option X). IfSome y P) is holds
