use Rattle.std.proofs.Common.{sym}
use Rattle.st_program.proofs.Argued.{first_given, second_given, preset_given, output_given}
use Rattle.st_program.proofs.arguments.argument_at.Goals as goal

pub returns-in_ok-value-in-First-clause-argument : goal.returns-in_ok-value-in-First-clause-argument
returns-in_ok-value-in-First-clause-argument c =
    first_given _ _ _ _ _ _ c.in-Some.ensures.first (sym c.in-First.ensures) c.in_ok-value-in-First.ensures.input

pub returns-in_ok-value-in-Second-clause-argument : goal.returns-in_ok-value-in-Second-clause-argument
returns-in_ok-value-in-Second-clause-argument c =
    second_given _ _ _ _ _ _ c.in-Some.ensures.first (sym c.in-Second.ensures) c.in_ok-value-in-Second.ensures.input

pub returns-in_ok-value-in-Preset-clause-argument : goal.returns-in_ok-value-in-Preset-clause-argument
returns-in_ok-value-in-Preset-clause-argument c =
    preset_given _ _ _ _ _ _ c.in-Some.ensures.first (sym c.in-Preset.ensures) c.in_ok-value-in-Preset.ensures.preset

pub returns-in_ok-copied-in-Output-clause-argument : goal.returns-in_ok-copied-in-Output-clause-argument
returns-in_ok-copied-in-Output-clause-argument c =
    output_given _ _ _ _ _ _ c.in-Some.ensures.first (sym c.in-Output.ensures) c.in_ok-copied-in-Output.ensures.output
