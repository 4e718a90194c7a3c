-- The first scan of a lane, noted scan by scan.
use Rattle.std.specs.Prelude.{ℕ, Bool, if◌then◌else◌, Option, Some, None}

-- A lane that has none yet gets this scan where the variable is ON in it.
abbrev pub noted : Bool → ℕ → Option ℕ → Option ℕ
noted on scan None = if on then Some scan else None
noted on scan (Some first) = Some first
