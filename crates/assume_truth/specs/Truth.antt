-- What is assumed of the inputs: an expression of Structured Text that is true in each scan that counts. An operand of it is an input, by its
-- place in order of declaration.
use Rattle.std.specs.Prelude.{ℕ, Bool, true, false, List, [], Option, Some, None}
use Rattle.scan_signals.specs.Algebra.{Algebra}
use Rattle.st_expression.specs.declared.expression.Operand.TheVariants.{Variable, Output}
use Rattle.st_expression.specs.declared.expression.Expression.{Expression}
use Rattle.st_expression.specs.declared.expression.Expression.TheVariants as tree
use Rattle.st_expression.specs.Value.{held_by, value}

-- With these values of the inputs it is true; where nothing is assumed, any will do.
abbrev pub is_allowed : Option Expression → List Bool → Bool
is_allowed None inputs = true
is_allowed (Some e) inputs = value (held_by inputs []) e

-- ---- over any signal

-- ON where just one of two is
abbrev pub exclusive : {S : Type 0} → Algebra S → S → S → S
exclusive o x y = o.choice x (o.inverse y) y

-- An expression over the operations of a signal, where each input has its own.
unfoldable pub truth : {S : Type 0} → Algebra S → (ℕ → S) → Expression → S
truth o input (tree.Constant on) = o.known on
truth o input (tree.Operand (Variable place)) = input place
truth o input (tree.Operand (Output number)) = o.known false
truth o input (tree.Not' p a) = o.inverse (truth o input a)
truth o input (tree.Equal' p a q b) = o.inverse (exclusive o (truth o input a) (truth o input b))
truth o input (tree.And' p a q b) = o.meet (truth o input a) (truth o input b)
truth o input (tree.Exclusive' p a q b) = exclusive o (truth o input a) (truth o input b)
truth o input (tree.Or' p a q b) = o.join (truth o input a) (truth o input b)

-- of what is assumed, if anything is
abbrev pub assumed_truth : {S : Type 0} → Algebra S → (ℕ → S) → Option Expression → S
assumed_truth o input None = o.known true
assumed_truth o input (Some e) = truth o input e
