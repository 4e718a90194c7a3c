-- The table computes to the definition. A table that differs is refused at once, where a search would go on.
use Rattle.cli_options.proofs.command.ladder.Goals as goal

pub returns : goal.returns
returns c = c.with_subcommands.ensures _ c.in_ok-searching.ensures
