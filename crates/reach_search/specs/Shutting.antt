-- What a set claims of what a literal is about.
use Rattle.diagram_declarations.specs.declared.decls.Symbol.{Symbol}
use Rattle.diagram_declarations.specs.declared.decls.Symbol.TheVariants as symbol
use Rattle.scan_signals.specs.declared.tri.Tri.{Tri}
use Rattle.invariant_sets.specs.Never.{Bits, claims}

abbrev pub claim_of : Bits → Symbol → Tri
claim_of z (symbol.Var var) = claims z.variables var
claim_of z (symbol.Instance inst) = claims z.instances inst
