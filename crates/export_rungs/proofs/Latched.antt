-- Assignments of an IF, by how many cells are done.
use Rattle.std.proofs.Common.{◌≡◌, ℕ, ◌+◌, ◌<◌, List, [], ◌∷◌, ◌++◌, length, get_or, zero, suc, refl, sym, ap, subst, ◌∙◌, ◌≤◌, arith, take, add-one}
use Rattle.std.proofs.Math.Seq.{take-suc}
use Rattle.diagram_program.specs.declared.gates.Action.{Action}
use Rattle.diagram_program.specs.Program.{Drawing}
use Rattle.st_expression.specs.declared.expression.Expression.{Expression}
use Rattle.st_statements.specs.declared.statement.StatementList.{StatementList}
use Rattle.st_statements.specs.declared.statement.StatementList.TheVariants.{End}
use Rattle.export_power.specs.declared.known.Known.{Known}
use Rattle.export_rungs.specs.Steps.{Go, IsLatch, Latches}
use Rattle.export_rungs.proofs.By.{latched_by}
use Rattle.export_rungs.proofs.Latching.{latch_none}

pub one_taken : (actions : List Action) (done : ℕ) (a z : Action) → done < length actions → a ≡ get_or actions done z → take (done + 1) actions ≡ take done actions ++ a ∷ []
one_taken actions done a z lt is = ap (λ n. take n actions) (add-one done) ∙ take-suc actions done z lt ∙ ap (λ (x : Action). take done actions ++ x ∷ []) (sym is)

module _ (d : Drawing) (variables count rung : ℕ) (known : List Known) (from actions : List Action) (condition : Expression) where
  pub latched_none : (done : ℕ) (accepted : StatementList) → accepted ≡ End
      → Latches d variables count rung known from (take done actions) (take done actions) condition accepted
  latched_none done accepted is = subst (λ (l : StatementList). Latches d variables count rung known from (take done actions) (take done actions) condition l) (sym is)
      (latch_none d variables count rung known from condition (take done actions))

  pub latched_more : (done next : ℕ) (a z : Action) (accepted more : StatementList) → done < length actions → a ≡ get_or actions done z
      → IsLatch d rung known from a condition accepted more
      → Latches d variables count rung known from (take (done + 1) actions) (take next actions) condition more
      → Latches d variables count rung known from (take done actions) (take next actions) condition accepted
  latched_more done next a z accepted more lt is latch others =
      latched_by d variables count rung known from (take done actions) (take next actions) a condition latch.expression latch.on latch.variable more accepted
      latch.cell latch.small latch.begins latch.constant latch.shows
      (subst (λ (xs : List Action). Latches d variables count rung known from xs (take next actions) condition more) (one_taken actions done a z lt is) others)

module _ (d : Drawing) (variables count rung : ℕ) (known : List Known) (actions : List Action) where
  pub one_done : (done : ℕ) (a z : Action) (list rest : StatementList) → done < length actions → a ≡ get_or actions done z
      → Go d variables count rung known (take done actions) (take done actions ++ a ∷ []) list rest
      → Go d variables count rung known (take done actions) (take (done + 1) actions) list rest
  one_done done a z list rest lt is go =
      subst (λ (xs : List Action). Go d variables count rung known (take done actions) xs list rest) (sym (one_taken actions done a z lt is)) go

pub all_taken : (actions : List Action) (done : ℕ) → length actions ≤ done → take done actions ≡ actions
all_taken [] done le = take_none done
  where
    nothing : List Action
    nothing = []

    take_none : (n : ℕ) → take n nothing ≡ nothing
    take_none zero = refl
    take_none (suc n) = refl
all_taken (a ∷ actions) zero le = absurd (omega (arith, le))
all_taken (a ∷ actions) (suc done) le = ap (λ (xs : List Action). a ∷ xs) (all_taken actions done (omega (arith, le)))
