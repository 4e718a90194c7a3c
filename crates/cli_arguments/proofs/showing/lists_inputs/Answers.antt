use Rattle.clap.specs.Words.{found_of, rows_of}
use Rattle.cli_arguments.proofs.Faults.{lists_all, lists_none}
use Rattle.cli_arguments.proofs.showing.lists_inputs.Goals as goal

pub returns-then-is_set-clause-some : goal.returns-then-is_set-clause-some
returns-then-is_set-clause-some c = lists_all (rows_of (found_of c.args.found.now)) c.is_set.result c.is_set.ensures

pub returns-else-is_set-clause-none : goal.returns-else-is_set-clause-none
returns-else-is_set-clause-none c = λ absent.
    lists_none (rows_of (found_of c.args.found.now)) c.is_set.result c.is_set.ensures c.if-is_set.false (c.names_inputs.ensures.none absent)

pub returns-else-is_set-clause-some : goal.returns-else-is_set-clause-some
returns-else-is_set-clause-some c = λ given h. c.names_inputs.ensures.some given h.named
