use Rattle.std.proofs.Common.{codes}
use Rattle.clap.specs.Words.{found_of, rows_of}
use Rattle.cli_arguments.proofs.Faults.{watches_all, watches_none, no_value}
use Rattle.cli_arguments.proofs.simulating.is_watched.Goals as goal

pub returns-then-is_set-clause-some : goal.returns-then-is_set-clause-some
returns-then-is_set-clause-some c = watches_all (rows_of (found_of c.args.found.now)) c.is_set.result c.is_set.ensures

pub returns-else-is_set-clause-none : goal.returns-else-is_set-clause-none
returns-else-is_set-clause-none c = λ absent.
    watches_none (rows_of (found_of c.args.found.now)) c.is_set.result c.is_set.ensures c.if-is_set.false (c.is_given.ensures.absent absent).0

pub returns-else-is_set-clause-some : goal.returns-else-is_set-clause-some
returns-else-is_set-clause-some c = λ given h.
    (c.is_given.ensures.given given).0 (no_value (codes "watch") (rows_of (found_of c.args.found.now)) h.named)
