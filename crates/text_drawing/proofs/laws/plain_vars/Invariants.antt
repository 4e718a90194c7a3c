use Rattle.std.specs.Prelude.{All, take}
use Rattle.text_drawing.specs.Browser.{IsPlain}
use Rattle.diagram_declarations.specs.declared.decls.Var.{Var}
use Rattle.text_drawing.proofs.laws.plain_vars.Given as goal

abbrev pub invariant-loop-number : goal.invariant-loop-number
invariant-loop-number l = All (λ (x : Var). IsPlain x.title) (take l.number l.vars)
