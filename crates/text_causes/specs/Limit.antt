-- What a limit leaves after some rows.
use Rattle.std.specs.Prelude.{◌-◌, ℕ, Option, Some, None}

abbrev pub limit_left : Option ℕ → ℕ → Option ℕ
limit_left None rows = None
limit_left (Some n) rows = Some (n - rows)
