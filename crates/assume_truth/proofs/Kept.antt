-- What goes through an expression: relations that the operations keep, and the values of inputs.
use Rattle.std.proofs.Common.{◌≡◌, ap, ap₂, refl, sym, ℕ, Bool, true, false, List, [], ◌∙◌, Option, Some, None, not}
use Rattle.scan_signals.specs.Algebra.{Algebra}
use Rattle.scan_signals.specs.Relations.{IsKept}
use Rattle.scan_signals.specs.Truth.{plain}
use Rattle.st_expression.specs.declared.expression.Operand.TheVariants.{Variable, Output}
use Rattle.st_expression.specs.declared.expression.Expression.{Expression}
use Rattle.st_expression.specs.declared.expression.Expression.TheVariants as tree
use Rattle.st_expression.specs.Value.{differ, held, held_by, value}
use Rattle.assume_truth.specs.Truth.{assumed_truth, exclusive, is_allowed, truth}

module _ {A B : Type 0} (a : Algebra A) (b : Algebra B) (R : A → B → Type 0) (k : IsKept a b R) (f : ℕ → A) (g : ℕ → B) (h : (i : ℕ) → R (f i) (g i)) where
  exclusive_kept : (x y : A) (u v : B) → R x u → R y v → R (exclusive a x y) (exclusive b u v)
  exclusive_kept x y u v r s = k.choice x (a.inverse y) y u (b.inverse v) v r (k.inverse y v s) s

  -- a relation that the operations keep holds of an expression where it holds of each input
  pub truth_kept : (e : Expression) → R (truth a f e) (truth b g e)
  unfolding truth
  truth_kept (tree.Constant on) = k.known on
  truth_kept (tree.Operand (Variable place)) = h place
  truth_kept (tree.Operand (Output number)) = k.known false
  truth_kept (tree.Not' p e) = k.inverse _ _ (truth_kept e)
  truth_kept (tree.Equal' p c q d) = k.inverse _ _ (exclusive_kept _ _ _ _ (truth_kept c) (truth_kept d))
  truth_kept (tree.And' p c q d) = k.meet _ _ _ _ (truth_kept c) (truth_kept d)
  truth_kept (tree.Exclusive' p c q d) = exclusive_kept _ _ _ _ (truth_kept c) (truth_kept d)
  truth_kept (tree.Or' p c q d) = k.join _ _ _ _ (truth_kept c) (truth_kept d)

  pub assumed_kept : (e : Option Expression) → R (assumed_truth a f e) (assumed_truth b g e)
  assumed_kept None = k.known true
  assumed_kept (Some e) = truth_kept e

exclusive_is : (x y : Bool) → exclusive plain x y ≡ differ x y
exclusive_is true y = refl
exclusive_is false y = refl

held_nothing : (n : ℕ) → held [] n ≡ false
held_nothing n = refl

-- over truth values it is the value of the expression
truth_is : (inputs : List Bool) (e : Expression) → truth plain (held inputs) e ≡ value (held_by inputs []) e
unfolding truth value
truth_is inputs (tree.Constant on) = refl
truth_is inputs (tree.Operand (Variable place)) = refl
truth_is inputs (tree.Operand (Output number)) = sym (held_nothing number)
truth_is inputs (tree.Not' p e) = ap not (truth_is inputs e)
truth_is inputs (tree.Equal' p c q d) =
    ap not (ap₂ (exclusive plain) (truth_is inputs c) (truth_is inputs d) ∙ exclusive_is (value (held_by inputs []) c) (value (held_by inputs []) d))
truth_is inputs (tree.And' p c q d) = ap₂ plain.meet (truth_is inputs c) (truth_is inputs d)
truth_is inputs (tree.Exclusive' p c q d) = ap₂ (exclusive plain) (truth_is inputs c) (truth_is inputs d) ∙ exclusive_is (value (held_by inputs []) c) (value (held_by inputs []) d)
truth_is inputs (tree.Or' p c q d) = ap₂ plain.join (truth_is inputs c) (truth_is inputs d)

pub allowed_is : (inputs : List Bool) (e : Option Expression) → assumed_truth plain (held inputs) e ≡ is_allowed e inputs
allowed_is inputs None = refl
allowed_is inputs (Some e) = truth_is inputs e
