use Rattle.std.proofs.Common.{◌≡◌, take}
use Rattle.clap.specs.Words.{app_of}
use Rattle.cli_options.specs.Table.{with_all}
use Rattle.cli_options.proofs.command.with_subcommands.Given as goal

abbrev pub invariant-loop-sub : goal.invariant-loop-sub
invariant-loop-sub l = app_of l.all ≡ with_all (app_of l.fn.command) (take l.sub-index l.subs)
