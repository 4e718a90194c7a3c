use Rattle.std.specs.Prelude.{◌≡◌, ◌<◌, ℕ, Some, slice_get, true}
use Rattle.diagram_declarations.specs.declared.decls.Var.{Var}
use Rattle.diagram_declarations.specs.Name.{is_name}
use Rattle.text_runs.proofs.laws.named.Given as goal

abbrev pub invariant-loop-number : goal.invariant-loop-number
invariant-loop-number l = (number : ℕ) → number < l.number → (v : Var) → slice_get l.vars number ≡ Some v → is_name v.name ≡ true
