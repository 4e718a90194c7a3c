use Rattle.st_program.specs.Declarations.{zero_by_default}
use Rattle.st_program.proofs.Declared.{number_given}
use Rattle.st_program.proofs.declarations.read_number.Goals as goal

pub returns-in_default-clause-number : goal.returns-in_default-clause-number
returns-in_default-clause-number c = zero_by_default _

pub returns-in-Some-integer_of-clause-number : goal.returns-in-Some-integer_of-clause-number
returns-in-Some-integer_of-clause-number c = number_given _ _ _ _ _ _ _ c.in-Some.ensures.marked c.in-Some-first_word.ensures.first c.bytes_of.ensures c.in-Some-integer_of.ensures
