-- The value of an expression, by its tree.
use Rattle.std.proofs.Common.{◌≡◌, ◌∙◌, Bool, true, not, ◌&&◌, ◌||◌, Box, Global, ap, ap₂, sym}
use Rattle.st_expression.specs.declared.expression.Expression.{Expression}
use Rattle.st_expression.specs.declared.expression.Expression.TheVariants as tree
use Rattle.st_expression.specs.declared.expression.Operand.{Operand}
use Rattle.st_expression.specs.Value.{value}
use Rattle.network_power.specs.Leading.{Env}

-- the memory that a part of a tree is in
abbrev pub Held : Type 0
Held = Box (Unit {0}) Global

pub constant_is : (whole : Expression) (on : Bool) → whole ≡ tree.Constant on → on ≡ true → (env : Env) → true ≡ value env whole
unfolding value
constant_is whole on e is env = sym (ap (value env) e ∙ is)

pub operand_is : (whole : Expression) (operand : Operand) → whole ≡ tree.Operand operand → (env : Env) → env operand ≡ value env whole
unfolding value
operand_is whole operand e env = sym (ap (value env) e)

pub not_is : (whole a x : Expression) (p : Held) → whole ≡ tree.Not' p a → x ≡ a → (env : Env) → not (value env x) ≡ value env whole
unfolding value
not_is whole a x p e at env = ap (λ t. not (value env t)) at ∙ sym (ap (value env) e)

module _ (whole a b x y : Expression) (p q : Held) (at_a : x ≡ a) (at_b : y ≡ b) where
  pub and_is : whole ≡ tree.And' p a q b → (env : Env) → (value env x && value env y) ≡ value env whole
  unfolding value
  and_is e env = ap₂ (λ t u. value env t && value env u) at_a at_b ∙ sym (ap (value env) e)

  pub or_is : whole ≡ tree.Or' p a q b → (env : Env) → (value env x || value env y) ≡ value env whole
  unfolding value
  or_is e env = ap₂ (λ t u. value env t || value env u) at_a at_b ∙ sym (ap (value env) e)
