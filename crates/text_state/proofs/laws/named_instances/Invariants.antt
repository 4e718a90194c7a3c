use Rattle.std.specs.Prelude.{◌<◌, ℕ}
use Rattle.text_state.specs.Named.{IsNamed}
use Rattle.text_state.proofs.laws.named_instances.Given as goal

abbrev pub invariant-loop-number : goal.invariant-loop-number
invariant-loop-number l = (number : ℕ) → number < l.number → IsNamed (λ x. x.name) l.instances number
