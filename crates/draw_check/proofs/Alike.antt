-- Expressions have the same value where what they look at has.
use Rattle.std.proofs.Common.{◌≡◌, ℕ, Bool, true, false, not, ◌&&◌, ◌||◌, refl, ap, ap₂, arith, get_or-set_other}
use Rattle.std.proofs.lemmas.Bool.{and_parts, ltb-true}
use Rattle.std.proofs.lemmas.Bool.Decides.{nat_tests}
use Rattle.scan_cycle.specs.Rung.{Held, frame_of}
use Rattle.st_expression.specs.declared.expression.Operand.{Operand}
use Rattle.st_expression.specs.declared.expression.Operand.TheVariants.{Variable, Output}
use Rattle.st_expression.specs.declared.expression.Expression.{Expression}
use Rattle.st_expression.specs.declared.expression.Expression.TheVariants as tree
use Rattle.st_expression.specs.Value.{differ, value}
use Rattle.st_statements.specs.Operands.{is_below, is_variable, is_within, reads}
use Rattle.st_statements.specs.Run.{assigned, seen, value_in}
use Rattle.diagram_program.specs.Program.{Drawing}
use Rattle.draw_check.specs.Meaning.{AreSame}

module _ (n : ℕ) (env other : Operand → Bool) (same : (o : Operand) → is_below n o ≡ true → env o ≡ other o) where
  pub within_alike : (e : Expression) → is_within n e ≡ true → value env e ≡ value other e
  unfolding value is_within
  within_alike (tree.Constant on) t = refl
  within_alike (tree.Operand o) t = same o t
  within_alike (tree.Not' p a) t = ap not (within_alike a t)
  within_alike (tree.Equal' p a q b) t = ap₂ (λ x y. not (differ x y)) (within_alike a (and_parts _ _ t).0) (within_alike b (and_parts _ _ t).1)
  within_alike (tree.And' p a q b) t = ap₂ (λ x y. x && y) (within_alike a (and_parts _ _ t).0) (within_alike b (and_parts _ _ t).1)
  within_alike (tree.Exclusive' p a q b) t = ap₂ differ (within_alike a (and_parts _ _ t).0) (within_alike b (and_parts _ _ t).1)
  within_alike (tree.Or' p a q b) t = ap₂ (λ x y. x || y) (within_alike a (and_parts _ _ t).0) (within_alike b (and_parts _ _ t).1)

pub or_first : (x y : Bool) → (x || y) ≡ false → x ≡ false
or_first true y t = t
or_first false y t = refl

pub or_second : (x y : Bool) → (x || y) ≡ false → y ≡ false
or_second true true t = t
or_second true false t = refl
or_second false y t = t

module _ (v : ℕ) (env other : Operand → Bool) (same : (o : Operand) → is_variable v o ≡ false → env o ≡ other o) where
  pub unread_alike : (e : Expression) → reads v e ≡ false → value env e ≡ value other e
  unfolding value reads
  unread_alike (tree.Constant on) t = refl
  unread_alike (tree.Operand o) t = same o t
  unread_alike (tree.Not' p a) t = ap not (unread_alike a t)
  unread_alike (tree.Equal' p a q b) t = ap₂ (λ x y. not (differ x y)) (unread_alike a (or_first _ _ t)) (unread_alike b (or_second _ _ t))
  unread_alike (tree.And' p a q b) t = ap₂ (λ x y. x && y) (unread_alike a (or_first _ _ t)) (unread_alike b (or_second _ _ t))
  unread_alike (tree.Exclusive' p a q b) t = ap₂ differ (unread_alike a (or_first _ _ t)) (unread_alike b (or_second _ _ t))
  unread_alike (tree.Or' p a q b) t = ap₂ (λ x y. x || y) (unread_alike a (or_first _ _ t)) (unread_alike b (or_second _ _ t))

-- in states that have the same
operand_same : (d : Drawing) (n : ℕ) (g h : Held) → AreSame d n g h → (o : Operand) → is_below n o ≡ true → seen (frame_of g) o ≡ seen (frame_of h) o
operand_same d n g h same (Variable i) t = same.values i (ltb-true _ _ t)
operand_same d n g h same (Output i) t = ap (λ k. seen (frame_of (record g { kept = k })) (Output i)) same.kept

pub value_same : (d : Drawing) (n : ℕ) (g h : Held) → AreSame d n g h → (e : Expression) → is_within n e ≡ true → value_in g e ≡ value_in h e
value_same d n g h same e t = within_alike n (seen (frame_of g)) (seen (frame_of h)) (operand_same d n g h same) e t

-- after an assignment to a variable that isn't read
operand_unread : (v : ℕ) (x : Bool) (h : Held) (o : Operand) → is_variable v o ≡ false → seen (frame_of (assigned v x h)) o ≡ seen (frame_of h) o
operand_unread v x h (Variable i) t = get_or-set_other h.values v i x false (λ e. grind (arith, nat_tests, t, e))
operand_unread v x h (Output i) t = refl

pub value_unread : (v : ℕ) (x : Bool) (h : Held) (e : Expression) → reads v e ≡ false → value_in (assigned v x h) e ≡ value_in h e
value_unread v x h e t = unread_alike v (seen (frame_of (assigned v x h))) (seen (frame_of h)) (operand_unread v x h) e t
