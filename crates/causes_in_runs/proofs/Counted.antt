-- Each state that a run reaches counts where what stays so was settled from the state, or where nothing was.
use Rattle.std.proofs.Common.{refl, None, Option, Some}
use Rattle.st_expression.specs.declared.expression.Expression.{Expression}
use Rattle.diagram_program.specs.Program.{Drawing}
use Rattle.scan_cycle.specs.Standing.{Fits, Standing}
use Rattle.invariant_runs.specs.Reached.{AreReached, AreReachedAssuming}
use Rattle.invariant_sets.specs.Invariants.{AllowsGiven, input_numbers}
use Rattle.causes_any_state.specs.declared.before.Before.TheVariants.{Any}
use Rattle.causes_in_runs.specs.Rows.{AllCount}
use Rattle.invariant_sets.specs.declared.staying.Staying.{Staying}

module _ (assumed : Option Expression) (p : Drawing) (s : Standing) where
  pub reached_count : (staying : Staying) → AreReached p s staying → AllCount assumed p s (record { before = Any; staying = Some staying })
  reached_count staying reached = record { any = refl; stays = λ scans run are. (reached scans run).stays }

  -- where it was settled with what is assumed
  pub reached_count_assuming : AllowsGiven p → Fits p s → (staying : Staying) → AreReachedAssuming p (record { inputs = input_numbers p; expression = assumed }) s staying
      → AllCount assumed p s (record { before = Any; staying = Some staying })
  reached_count_assuming law fits staying reached = record {
    any = refl;
    stays = λ scans run are. (reached scans run (law (record { inputs = input_numbers p; expression = assumed }) refl s fits scans are)).stays;
  }

  pub each_counts : AllCount assumed p s (record { before = Any; staying = None })
  each_counts = record { any = refl; stays = λ scans run are. tt }
