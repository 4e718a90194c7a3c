use Rattle.std.proofs.Common.{map, take}
use Rattle.cli_options.specs.CommandLine.{IsApp, taking}
use Rattle.cli_options.specs.Table.{word_rule}
use Rattle.cli_options.proofs.command.subcommand_of.Given as goal

abbrev pub invariant-loop-word : goal.invariant-loop-word
invariant-loop-word l = IsApp (taking l.sub.name.now (map word_rule (take l.word-index l.sub.words.now))) l.command
