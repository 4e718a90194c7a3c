-- The statements that switch the flags off.
use Rattle.std.proofs.Common.{◌≡◌, ℕ, ◌+◌, ◌<◌, ◌≤◌, false, length, get_or, set, sym, ap, subst, ◌∙◌, arith, inl, inr, get_or-set_other, get_or-set_same, length-set}
use Rattle.std.proofs.lemmas.Bool.{cases_eq}
use Rattle.scan_cycle.specs.Rung.{Held}
use Rattle.st_expression.specs.declared.expression.Expression.TheVariants.{Constant}
use Rattle.st_expression.specs.Value.{value}
use Rattle.st_statements.specs.declared.statement.StatementList.{StatementList}
use Rattle.st_statements.specs.declared.statement.StatementList.TheVariants.{Assign'}
use Rattle.st_statements.specs.Run.{assigned, run}
use Rattle.draw_check.specs.Groups.{IsAssignment}
use Rattle.export_check.specs.Flags.{AreOff, AreReset, Resets}

module _ (first number count : ℕ) (h : Held) (room : first + count ≤ length h.values) (lt : number < count) where
  off_more : AreOff first number h → AreOff first (number + 1) (assigned (first + number) false h)
  off_more off = λ i k. elim (cases_eq i number) [
    | inl e ↦
        ap (λ j. get_or (set h.values (first + number) false) (first + j) false) e
        ∙ get_or-set_same h.values (first + number) false false (omega (arith, room, lt))
    | inr e ↦ get_or-set_other h.values (first + number) (first + i) false false (other i e) ∙ off i (below i k e)
  ]
    where
      other : (i : ℕ) → (i ≡ number → ⊥) → first + i ≡ first + number → ⊥
      other i e same = e (omega (arith, same))

      below : (i : ℕ) → i < number + 1 → (i ≡ number → ⊥) → i < number
      below i k e = omega (arith, k, e)

  reset_above : (after : Held) → AreReset first count (assigned (first + number) false h) after → AreReset first count h after
  reset_above after are = record {
    long = are.long ∙ length-set h.values (first + number) false;
    above = λ i k. are.above i k ∙ get_or-set_other h.values (first + number) i false false (omega (arith, k));
    off = are.off;
    kept = are.kept;
  }

reset_more : (first number count : ℕ) (p : _) (next rest : StatementList) → number < count → Resets first (number + 1) count next rest
    → Resets first number count (Assign' (first + number) (Constant false) p next) rest
unfolding run value
reset_more first number count p next rest lt resets = λ instances now h room off.
    let left = resets instances now (assigned (first + number) false h) (omega (arith, room, length-set h.values (first + number) false)) (off_more first number count h room lt off) in
    (left.0, reset_above first number count h room lt left.0 left.1, left.2)

pub reset_by : (first number count : ℕ) (list next rest : StatementList) → number < count → IsAssignment (first + number) (Constant false) next list
    → Resets first (number + 1) count next rest → Resets first number count list rest
reset_by first number count list next rest lt begins resets =
    subst (λ (l : StatementList). Resets first number count l rest) (sym begins.1) (reset_more first number count begins.0 next rest lt resets)
