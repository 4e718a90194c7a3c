use Rattle.std.proofs.Common.{◌∙◌, sym}
use Rattle.export_power.proofs.Rows.{same_rows}
use Rattle.export_power.proofs.ends.is_same.Goals as goal

pub returns-else-first-eq0 : goal.returns-else-first-eq0
returns-else-first-eq0 c =
    λ yes. record { column = c.if-first-second.true; rows = λ some. same_rows _ _ (sym c.eq.ensures ∙ yes) }
