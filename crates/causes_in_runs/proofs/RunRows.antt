-- Rows of causes in runs, one after the other.
use Rattle.std.proofs.Common.{◌≡◌, arith, ℕ, ◌+◌, ◌<◌, ◌≤◌, subst, inl, inr, List, [], ◌∷◌, ◌++◌, Option}
use Rattle.std.proofs.lemmas.Bool.Decides.{leb_tells}
use Rattle.st_expression.specs.declared.expression.Expression.{Expression}
use Rattle.diagram_program.specs.Program.{Drawing}
use Rattle.scan_cycle.specs.Standing.{Standing}
use Rattle.causes_any_state.specs.declared.states.States.{States}
use Rattle.causes_in_runs.specs.Rows.{AreRunRows, AreUnreached, IsUnreached, RowSays}
use Rattle.causes_in_runs.specs.declared.row.RunCause.{RunCause}

the_same : (n m : ℕ) → n ≤ m → m < n + 1 → n ≡ m
the_same n m le lt = omega (arith, le, lt)

module _ (assumed : Option Expression) (p : Drawing) (s : Standing) (coil : ℕ) (listed : List ℕ) where
  pub unreached_after : (from at to : ℕ) → AreUnreached assumed p s coil listed from at → AreUnreached assumed p s coil listed at to → AreUnreached assumed p s coil listed from to
  unreached_after from at to first rest n later below = elim (leb_tells at n) [
    | inl t ↦ rest n t.1 below
    | inr t ↦ first n later t.1
  ]

  pub one_unreached : (n : ℕ) → IsUnreached assumed p s coil listed n → AreUnreached assumed p s coil listed n (n + 1)
  one_unreached n none m later below = subst (λ (k : ℕ). IsUnreached assumed p s coil listed k) (the_same n m later below) none

  pub no_run_rows : (states : States) (from : ℕ) → AreRunRows assumed p s coil listed states from from []
  no_run_rows states from n later below = absurd (omega (arith, later, below))

  -- no row more
  pub run_rows_end : (states : States) (rows : List RunCause) (from at to : ℕ) → AreRunRows assumed p s coil listed states from at rows → at ≤ to
      → AreUnreached assumed p s coil listed at to → AreRunRows assumed p s coil listed states from to rows
  run_rows_end states [] from at to h le none = unreached_after from at to h none
  run_rows_end states (row ∷ rows) from at to h le none =
      (h.0, omega (arith, h.1, le), h.2, h.3, run_rows_end states rows (row.number + 1) at to h.4 le none)

  -- one row more
  pub run_rows_more : (states : States) (rows : List RunCause) (from at : ℕ) → AreRunRows assumed p s coil listed states from at rows → from ≤ at
      → (row : RunCause) → at ≤ row.number → AreUnreached assumed p s coil listed at row.number → RowSays assumed row.reached p s coil listed states row.number
      → AreRunRows assumed p s coil listed states from (row.number + 1) (rows ++ row ∷ [])
  run_rows_more states [] from at h le row later none said =
      (omega (arith, le, later), omega arith, unreached_after from at row.number h none, said, no_run_rows states (row.number + 1))
  run_rows_more states (first ∷ rows) from at h le row later none said =
      (h.0, omega (arith, h.1, later), h.2, h.3, run_rows_more states rows (first.number + 1) at h.4 (omega (arith, h.1)) row later none said)
