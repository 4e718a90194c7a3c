-- What is assumed depends on those inputs alone that it names.
use Rattle.std.proofs.Common.{◌≡◌, ap, ap₂, refl, ℕ, Bool, true, false, List, [], ◌||◌, Option, Some, None, not}
use Rattle.std.specs.Prelude.{◌&&◌}
use Rattle.std.proofs.lemmas.Bool.{eq-eqb}
use Rattle.st_expression.specs.declared.expression.Operand.TheVariants.{Variable, Output}
use Rattle.st_expression.specs.declared.expression.Expression.{Expression}
use Rattle.st_expression.specs.declared.expression.Expression.TheVariants as tree
use Rattle.st_expression.specs.Value.{differ, held, held_by, value}
use Rattle.assume_truth.specs.Operands.{is_named, is_operand}
use Rattle.assume_truth.specs.Truth.{is_allowed}

named_first : (a b : Bool) → a ≡ true → (a || b) ≡ true
named_first true b h = refl
named_first false b h = cc

named_second : (a b : Bool) → b ≡ true → (a || b) ≡ true
named_second true b h = refl
named_second false b h = h

module _ (xs ys : List Bool) where
  -- two lists that hold the same at each operand give an expression the same value
  pub value_same : (e : Expression) → ((place : ℕ) → is_operand place e ≡ true → held xs place ≡ held ys place) → value (held_by xs []) e ≡ value (held_by ys []) e
  unfolding value is_operand
  value_same (tree.Constant on) h = refl
  value_same (tree.Operand (Variable place)) h = h place (eq-eqb place place refl)
  value_same (tree.Operand (Output number)) h = refl
  value_same (tree.Not' p a) h = ap not (value_same a h)
  value_same (tree.Equal' p a q b) h = ap₂ (λ x y. not (differ x y)) (value_same a (λ i is. h i (named_first _ _ is))) (value_same b (λ i is. h i (named_second _ _ is)))
  value_same (tree.And' p a q b) h = ap₂ (λ x y. x && y) (value_same a (λ i is. h i (named_first _ _ is))) (value_same b (λ i is. h i (named_second _ _ is)))
  value_same (tree.Exclusive' p a q b) h = ap₂ differ (value_same a (λ i is. h i (named_first _ _ is))) (value_same b (λ i is. h i (named_second _ _ is)))
  value_same (tree.Or' p a q b) h = ap₂ (λ x y. x || y) (value_same a (λ i is. h i (named_first _ _ is))) (value_same b (λ i is. h i (named_second _ _ is)))

  -- two lists that hold the same at each input that is named are both allowed, or neither is
  pub allowed_same : (assumed : Option Expression) → ((place : ℕ) → is_named assumed place ≡ true → held xs place ≡ held ys place) → is_allowed assumed xs ≡ is_allowed assumed ys
  allowed_same None h = refl
  allowed_same (Some e) h = value_same e h
