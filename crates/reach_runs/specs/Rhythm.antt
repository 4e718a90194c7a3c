-- When the next scan of a run is.
use Rattle.std.specs.Prelude.{ℕ, ◌+◌, Option, Some, None}
use Rattle.reach_runs.specs.declared.timing.Timing.{Timing}
use Rattle.reach_runs.specs.declared.timing.Timing.TheVariants.{AnyMoments, Every}

-- After a scan at this moment: the moment from which on the next one is, or at which it is.
abbrev pub next_of : Timing → ℕ → ℕ
next_of AnyMoments moment = moment
next_of (Every every) moment = moment + every

-- After the last scan so far, or before the first one.
abbrev pub next_after : Timing → ℕ → Option ℕ → ℕ
next_after timing from None = from
next_after timing from (Some last) = next_of timing last
