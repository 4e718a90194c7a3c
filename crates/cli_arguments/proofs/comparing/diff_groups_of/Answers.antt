use Rattle.std.proofs.Common.{refl}
use Rattle.clap.specs.Words.{found_of, rows_of}
use Rattle.cli_arguments.proofs.Differing.{no_diff_groups}
use Rattle.cli_arguments.proofs.comparing.diff_groups_of.Goals as goal

pub returns-then-is_counted-clause-err : goal.returns-then-is_counted-clause-err
returns-then-is_counted-clause-err c = no_diff_groups (rows_of (found_of c.args.found.now)) c.requires (c.if-is_counted.ensures.several refl)
