-- How a list of what some state switches on ends that is asked of the runs.
use Rattle.std.proofs.Common.{◌≡◌, ◌∙◌, ◌⊎◌, ◌^◌, ℕ, Bool, true, false, List, None, Option, Some, ap, inl, inr, length, subst, sym}
use Rattle.std.specs.Prelude.{IfSome}
use Rattle.st_expression.specs.declared.expression.Expression.{Expression}
use Rattle.diagram_program.specs.Program.{Drawing}
use Rattle.scan_cycle.specs.Standing.{Fits, Standing}
use Rattle.causes_query.specs.Causes.{Question}
use Rattle.causes_query.specs.Refusal.{refusal}
use Rattle.invariant_sets.specs.Invariants.{AllowsGiven}
use Rattle.invariant_sets.specs.declared.staying.Staying.{Staying}
use Rattle.causes_in_runs.specs.Rows.{AllCount, AreRunRows, RunCursor}
use Rattle.causes_in_runs.specs.declared.row.RunCause.{RunCause}
use Rattle.causes_in_runs.proofs.Counted.{each_counts, reached_count, reached_count_assuming}
use Rattle.text_runs.specs.CauseText.{AreAll, AreFew, Gave, run_causes_text}
use Rattle.cli_arguments.specs.declared.request.PossibleRequest.{PossibleRequest}
use Rattle.cli_questions.specs.declared.counting.ListCounts.{ListCounts}
use Rattle.cli_states.specs.Query.{AsksRuns}
use Rattle.cli_states.specs.AnyState.{IsSettledBy, IsStayingBy, ReachedListBy, counted, reached_counts}

-- Each state that a run reaches counts.
module _ (p : Drawing) (s : Standing) (law : AllowsGiven p) (fits : Fits p s) where
  settled_count : (assumed : Option Expression) (known : Staying) → IsSettledBy assumed p s known → AllCount assumed p s (counted false (Some known))
  settled_count None known settled = reached_count None p s known settled.1
  settled_count (Some e) known settled = reached_count_assuming (Some e) p s law fits known settled.1

  pub all_count : (b : Bool) (assumed : Option Expression) (staying : Option Staying) → IsStayingBy b assumed p s staying → AllCount assumed p s (counted false staying)
  all_count false assumed staying none = subst (λ (x : Option Staying). AllCount assumed p s (counted false x)) (sym none) (each_counts assumed p s)
  all_count true assumed staying (known, same, settled) =
      subst (λ (x : Option Staying). AllCount assumed p s (counted false x)) (sym same) (settled_count assumed known settled)

module _ (assumed : Option Expression) (expressions : ℕ) (r : PossibleRequest) (q : Question) (c d : RunCursor) (rows : List RunCause) (accepted : refusal q None ≡ None)
    (made : AsksRuns assumed r q c) (gave : Gave c rows d) (few : AreFew r.limit rows) where
  counted_by : (n : Option ListCounts) → IfSome n (λ _. (d.from ≡ 2 ^ length q.listed) ⊎ (r.limit ≡ Some (length rows)))
      → IfSome n (λ m. m ≡ reached_counts expressions rows)
      → ReachedListBy assumed expressions r q (run_causes_text c.program c.listed rows) n
  counted_by n all count = record {
    accepted = accepted;
    staying = made.staying;
    stays = made.stays;
    rows = rows;
    few = few;
    to = d.from;
    are = subst (λ (x : RunCursor). AreRunRows x.assumed x.program x.state x.coil x.listed x.states x.from d.from rows) made.same gave.rows_are;
    written = ap (λ (x : RunCursor). run_causes_text x.program x.listed rows) made.same;
    all = all;
    count = count;
  }

  pub runs_some : ReachedListBy assumed expressions r q (run_causes_text c.program c.listed rows) None
  runs_some = counted_by None tt tt

  all_of : AreAll d rows r.limit → (d.from ≡ 2 ^ length q.listed) ⊎ (r.limit ≡ Some (length rows))
  all_of (inl e) = inl (e ∙ ap (λ (xs : List ℕ). 2 ^ length xs) (ap (λ (x : RunCursor). x.listed) gave.same ∙ ap (λ (x : RunCursor). x.listed) made.same))
  all_of (inr e) = inr e

  pub runs_all : (n : ListCounts) → n ≡ reached_counts expressions rows → AreAll d rows r.limit → ReachedListBy assumed expressions r q (run_causes_text c.program c.listed rows) (Some n)
  runs_all n count all = counted_by (Some n) (all_of all) count
