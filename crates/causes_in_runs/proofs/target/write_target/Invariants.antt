use Rattle.std.proofs.Common.{◌≡◌, ◌+◌, ◌∷◌, take, true}
use Rattle.causes_in_runs.specs.Rows.{bits_below, value_of}
use Rattle.causes_in_runs.proofs.target.write_target.Given as goal

abbrev pub invariant-loop-place : goal.invariant-loop-place
invariant-loop-place l = take (l.place + 1) l.target ≡ value_of l.coil true ∷ bits_below l.listed l.number l.place
