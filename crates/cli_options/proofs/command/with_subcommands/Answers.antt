use Rattle.std.proofs.Common.{◌∙◌, ap, ap₂, rules, sym, take}
use Rattle.std.proofs.lemmas.List.{take_more}
use Rattle.clap.specs.Words.{App, app_of, with_subcommand}
use Rattle.cli_options.specs.Table.{with_all}
use Rattle.cli_options.proofs.Program.{with_one_more}
use Rattle.cli_options.proofs.command.with_subcommands.Goals as goal

pub loop-sub-preserved : goal.loop-sub-preserved
loop-sub-preserved c =
    let bare = app_of c.args.command in
    let before = take c.loop-sub.sub-index c.args.subs.now in
    let more = take_more c.args.subs.now c.loop-sub.sub-index _ (search rules) in
    c.in_ok-all.ensures.shape c.in_ok-subcommand_of.ensures.1
    ∙ ap₂ (λ (a b : App). with_subcommand a b.top) c.loop-sub.invariant c.in_ok-subcommand_of.ensures.0
    ∙ with_one_more bare before _ ∙ ap (with_all bare) (sym more)
