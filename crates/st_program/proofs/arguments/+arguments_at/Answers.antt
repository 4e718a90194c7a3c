use Rattle.std.proofs.Common.{◌∙◌, ap, sym}
use Rattle.st_program.specs.Statements.{last, more, with_argument}
use Rattle.st_program.proofs.arguments.+arguments_at.Goals as goal

pub returns-in_ok-add_argument-in-Ok-clause-arguments : goal.returns-in_ok-add_argument-in-Ok-clause-arguments
returns-in_ok-add_argument-in-Ok-clause-arguments t c =
    more _ _ _ _ _ _ _ c.in_ok-argument.ensures.argument c.in-Some.ensures.has c.in-Ok.ensures.arguments c.in_ok-add_argument-in-Ok.ensures

pub returns-in_ok-add_argument-in-Ok-expect-clause-arguments : goal.returns-in_ok-add_argument-in-Ok-expect-clause-arguments
returns-in_ok-add_argument-in-Ok-expect-clause-arguments t c =
    last _ _ _ _ _ c.in_ok-argument.ensures.argument c.in-Ok-expect.ensures.has
    (ap (with_argument c.in_ok-argument.argument) (sym c.nothing_given.ensures) ∙ c.in_ok-add_argument-in-Ok-expect.ensures)
