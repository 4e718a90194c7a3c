-- Private: what tells whether a combination counts.
use Rattle.std.specs.Prelude.{◌≡◌, Option, option_map}
use Rattle.st_expression.specs.declared.expression.Expression.{Expression}
use Rattle.causes_query.specs.Causes.{Question}
use Rattle.diff_causes.specs.InBoth.{asked_sources}
use Rattle.diff_held.specs.declared.counting.Counting.{Counting}

-- what is assumed
abbrev pub assumption : Counting → Option Expression
assumption c = option_map (λ e. e.now) c.assumed

-- Each input has its source.
abbrev pub IsCounting : Question → Counting → Type 0
IsCounting q c = c.sources.items ≡ asked_sources q
