use Rattle.std.proofs.Common.{◌≡◌, List, length}
use Rattle.diagram_declarations.specs.Grammar.{Decl, declared_by}
use Rattle.diagram_declarations.proofs.DeclReads.{Reads}
use Rattle.diagram_declarations.proofs.read.all_of.Given as goal

abbrev pub invariant-loop-decls : goal.invariant-loop-decls
invariant-loop-decls l = (ds : List Decl) × Reads l.text ds l.rest × (l.decls ≡ declared_by ds)

abbrev pub decreases-loop-decls : goal.decreases-loop-decls
decreases-loop-decls l = length l.rest
