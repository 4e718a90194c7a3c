use Rattle.std.proofs.Common.{length, ◌+◌, ◌*◌}
use Rattle.st_expression.specs.Steps.{looseness}
use Rattle.st_expression.proofs.reading.+read_level.Given as goal

abbrev pub decreases-read_level : goal.decreases-read_level
decreases-read_level l = 6 * length l.tokens.now + looseness l.level
