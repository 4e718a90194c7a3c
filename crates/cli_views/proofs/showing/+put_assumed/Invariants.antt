use Rattle.std.proofs.Common.{length}
use Rattle.cli_views.proofs.showing.+put_assumed.Given as goal

abbrev pub decreases-put_assumed : goal.decreases-put_assumed
decreases-put_assumed g l = length l.expressions.now
