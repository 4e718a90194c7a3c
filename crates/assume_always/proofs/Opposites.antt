-- The opposite of an expression.
use Rattle.std.proofs.Common.{◌≡◌, ◌∙◌, ap, refl, sym, subst, Bool, true, false, not, Box, Global, List, []}
use Rattle.std.specs.Prelude.{IsFalse, IsTrue}
use Rattle.st_expression.specs.declared.expression.Expression.{Expression, Not}
use Rattle.st_expression.specs.Value.{held_by, value}
use Rattle.assume_always.specs.Always.{IsAlwaysTrue, IsSometimesFalse}
use Rattle.assume_possible.specs.Satisfiable.{IsSatisfiable, IsUnsatisfiable}

pub not_true : (b : Bool) → IsTrue (not b) → IsFalse b
not_true true h = cc
not_true false h = refl

pub not_false : (b : Bool) → IsFalse (not b) → IsTrue b
not_false true h = refl
not_false false h = cc

must_be_on : (b : Bool) → not b ≡ false → b ≡ true
must_be_on true h = refl
must_be_on false h = cc

must_be_off : (b : Bool) → not b ≡ true → b ≡ false
must_be_off true h = cc
must_be_off false h = refl

-- Where nothing makes the opposite true, it is always true.
pub always : (e : Expression) (b : Box Expression Global) → b.value ≡ e → IsUnsatisfiable (Not b) → IsAlwaysTrue e
unfolding value
always e b is none inputs = subst (λ (x : Expression). value (held_by inputs []) x ≡ true) is (must_be_on (value (held_by inputs []) b.value) (none inputs))

-- Where something does, that makes it false.
pub sometimes : (e : Expression) (b : Box Expression Global) → b.value ≡ e → IsSatisfiable (Not b) → IsSometimesFalse e
unfolding value
sometimes e b is some = (some.0, subst (λ (x : Expression). value (held_by some.0 []) x ≡ false) is (must_be_off (value (held_by some.0 []) b.value) some.1))
