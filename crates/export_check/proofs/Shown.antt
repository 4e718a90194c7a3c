-- Guards: expressions over flags.
use Rattle.std.proofs.Common.{◌≡◌, ℕ, ◌+◌, Bool, true, false, ◌||◌, not, List, get_or, refl, sym, ap, subst, ◌∙◌, arith, inl, inr, Option, Some, None, slice_get}
use Rattle.std.proofs.lemmas.Bool.{cases_eq, eqb-true}
use Rattle.std.proofs.lemmas.Option.{slice_get_within}
use Rattle.scan_cycle.specs.Rung.{Held, frame_of}
use Rattle.st_expression.specs.declared.expression.Operand.{Operand}
use Rattle.st_expression.specs.declared.expression.Operand.TheVariants.{Variable}
use Rattle.st_expression.specs.declared.expression.Expression.{Expression}
use Rattle.st_expression.specs.declared.expression.Expression.TheVariants as tree
use Rattle.st_expression.specs.Value.{value}
use Rattle.st_statements.specs.Operands.{is_variable, reads}
use Rattle.st_statements.specs.Run.{seen, value_in}
use Rattle.export_check.specs.declared.jumps.Jump.{Jump}
use Rattle.export_check.specs.Flags.{AreShown, IsAnyOf, IsFlag, IsGuard, ReadsFrom}
use Rattle.export_check.specs.Jumps.{is_over, passes, passes_there}
use Rattle.export_check.proofs.Over.{on_over, one_on}

passing : (rung : ℕ) (found : Option Jump) → passes_there rung found ≡ true → (jump : Jump) × (found ≡ Some jump) × (passes rung jump ≡ true)
passing rung None t = cc
passing rung (Some jump) t = (jump, refl, t)

module _ (first : ℕ) (jumps : List Jump) (rung : ℕ) where
  flag_any : (o : Operand) (number : ℕ) → o ≡ Variable (first + number) → passes_there rung (slice_get jumps number) ≡ true → IsAnyOf first jumps rung (tree.Operand o)
  unfolding value reads
  flag_any o number is over = record {
    over = λ f flags shown t.
        let one = passing rung (slice_get jumps number) over in
        on_over jumps flags rung number one.0 one.1 one.2
        (sym (shown.each number (omega (arith, slice_get_within jumps number one.0 one.1, shown.many))) ∙ ap (seen f) (sym is) ∙ t);
    on = λ f v t on.
        let same : first + number ≡ v = eqb-true (first + number) v (ap (is_variable v) (sym is) ∙ t) in
        ap (seen f) is ∙ ap (λ w. get_or f.values w false) same ∙ on;
  }

  pub flag_any_by : (e : Expression) (o : Operand) → e ≡ tree.Operand o → IsFlag first jumps rung o → IsAnyOf first jumps rung e
  flag_any_by e o is flag = subst (IsAnyOf first jumps rung) (sym is) (flag_any o flag.0 flag.1 flag.2)

  either_true : (x y : Bool) (A : Type 0) → (x || y) ≡ true → (x ≡ true → A) → (y ≡ true → A) → A
  either_true true y A t f g = f refl
  either_true false y A t f g = g t

  first_true : (x y : Bool) → x ≡ true → (x || y) ≡ true
  first_true true y t = refl
  first_true false y t = cc

  second_true : (x y : Bool) → y ≡ true → (x || y) ≡ true
  second_true true y t = refl
  second_true false y t = t

  or_any : (a b : Expression) (p q : _) → IsAnyOf first jumps rung a → IsAnyOf first jumps rung b → IsAnyOf first jumps rung (tree.Or' p a q b)
  unfolding value reads
  or_any a b p q x y = record {
    over = λ f flags shown t.
        either_true (value (seen f) a) (value (seen f) b) (is_over jumps flags rung ≡ true) t (x.over f flags shown) (y.over f flags shown);
    on = λ f v t on.
        either_true (reads v a) (reads v b) ((value (seen f) a || value (seen f) b) ≡ true) t
        (λ r. first_true (value (seen f) a) (value (seen f) b) (x.on f v r on))
        (λ r. second_true (value (seen f) a) (value (seen f) b) (y.on f v r on));
  }

  pub or_any_by : (e a b : Expression) (p q : _) → e ≡ tree.Or' p a q b → IsAnyOf first jumps rung a → IsAnyOf first jumps rung b → IsAnyOf first jumps rung e
  or_any_by e a b p q is x y = subst (IsAnyOf first jumps rung) (sym is) (or_any a b p q x y)

  same_by : (x y : Bool) → (x ≡ true → y ≡ true) → (y ≡ true → x ≡ true) → x ≡ y
  same_by true y f g = sym (f refl)
  same_by false true f g = g refl
  same_by false false f g = refl

  any_over : (e : Expression) → IsAnyOf first jumps rung e → ReadsFrom 0 first jumps rung e → (h : Held) (flags : List Bool) → AreShown first jumps flags h.values
      → is_over jumps flags rung ≡ true → value_in h e ≡ true
  any_over e any all h flags shown t =
      let one = one_on jumps flags rung t in
      any.on (frame_of h) (first + one.number) (all one.number (omega arith) (ap (passes_there rung) one.is ∙ one.over)) (shown.each one.number one.within ∙ one.on)

  not_guard : (e : Expression) (p : _) → IsAnyOf first jumps rung e → ReadsFrom 0 first jumps rung e → IsGuard first jumps rung (tree.Not' p e)
  unfolding value
  not_guard e p any all = λ h flags shown.
      ap not (same_by (value_in h e) (is_over jumps flags rung) (any.over (frame_of h) flags shown) (any_over e any all h flags shown))

  pub not_guard_by : (e a : Expression) (p : _) → e ≡ tree.Not' p a → IsAnyOf first jumps rung a → ReadsFrom 0 first jumps rung a → IsGuard first jumps rung e
  not_guard_by e a p is any all = subst (IsGuard first jumps rung) (sym is) (not_guard a p any all)

pub reads_more : (number first : ℕ) (jumps : List Jump) (rung : ℕ) (e : Expression)
    → (passes_there rung (slice_get jumps number) ≡ true → reads (first + number) e ≡ true) → ReadsFrom (number + 1) first jumps rung e
    → ReadsFrom number first jumps rung e
reads_more number first jumps rung e here later = λ i from over. elim (cases_eq i number) [
  | inl same ↦ ap (λ k. reads (first + k) e) same ∙ here (ap (λ k. passes_there rung (slice_get jumps k)) (sym same) ∙ over)
  | inr differs ↦ later i (omega (arith, from, differs)) over
]
