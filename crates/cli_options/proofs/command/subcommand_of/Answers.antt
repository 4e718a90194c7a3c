use Rattle.std.proofs.Common.{◌∙◌, ◌||◌, ap, ap₂, rules, sym}
use Rattle.std.proofs.lemmas.List.{map_more}
use Rattle.clap.specs.Words.{with_rule}
use Rattle.cli_options.specs.CommandLine.{taking}
use Rattle.cli_options.specs.Table.{word_rule}
use Rattle.cli_options.proofs.command.subcommand_of.Goals as goal

pub loop-word-preserved : goal.loop-word-preserved
loop-word-preserved c =
    let sub = c.args.sub.now in
    let inv = c.loop-word.invariant in
    let more = map_more word_rule sub.words.now c.loop-word.word-index _ (search rules) in (
      c.in_ok-command.ensures.shape c.arg_of.ensures.global ∙ ap₂ with_rule inv.0 c.arg_of.ensures.rule ∙ ap (taking sub.name.now) (sym more),
      c.in_ok-command.ensures.globals ∙ ap₂ (λ x y. x || y) inv.1 c.arg_of.ensures.global,
    )
