use Rattle.st_program.proofs.Chosen.{number_last, number_more}
use Rattle.st_program.proofs.choice.+numbers_at.Goals as goal

pub returns-in_default-clause-numbers : goal.returns-in_default-clause-numbers
returns-in_default-clause-numbers t c =
    number_last _ _ _ _ _ _ _ _ c.in_ok-number.ensures.first c.in_ok-number.ensures.number c.in_ok-rest.ensures.has c.equals.ensures

pub returns-clause-numbers : goal.returns-clause-numbers
returns-clause-numbers t c =
    number_more _ _ _ _ _ _ _ _ _ _ _ c.in_ok-number.ensures.first c.in_ok-number.ensures.number c.in-Some.ensures.has c.in_ok-other.ensures.numbers
    c.equals-one.ensures c.in_ok-either.ensures
