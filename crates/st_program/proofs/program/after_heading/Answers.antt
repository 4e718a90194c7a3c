use Rattle.st_program.specs.Programs.{untitled}
use Rattle.st_program.proofs.Endings.{titled_by}
use Rattle.st_program.proofs.program.after_heading.Goals as goal

pub returns-in_default : goal.returns-in_default
returns-in_default c = untitled _

pub returns-in-Some-first_word : goal.returns-in-Some-first_word
returns-in-Some-first_word c =
    titled_by _ _ _ _ _ _ c.in-Some.ensures.marked c.in-Some-first_word.ensures.first c.bytes_of.ensures (c.is_name.ensures.0 c.if-is_name.true)
