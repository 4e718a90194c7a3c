use Rattle.std.proofs.Common.{◌≡◌, ℕ, ◌<◌, ◌≤◌, false, length, map, slice_index_or}
use Rattle.std.specs.Prelude.{Contains}
use Rattle.diagram_declarations.specs.Decls.{is_input}
use Rattle.scan_cycle.specs.Scan.{given}
use Rattle.reach_runs.proofs.GivenLaws.{rank}
use Rattle.reach_runs.proofs.replay.gives_each.Given as goal

abbrev pub invariant-loop-var : goal.invariant-loop-var
invariant-loop-var l = record {
  rank : l.place ≡ rank (map is_input l.vars) l.var;
  within : l.place ≤ length l.inputs;
  stored : (v : ℕ) → v < l.var → (Contains l.query.listed.now v → ⊥)
      → slice_index_or (given (map is_input l.vars) l.inputs l.query.state.now.held.values) v false ≡ slice_index_or l.query.state.now.held.values v false;
}
