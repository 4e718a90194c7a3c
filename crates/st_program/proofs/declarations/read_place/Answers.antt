use Rattle.std.proofs.Common.{◌≡◌, true}
use Rattle.diagram_declarations.specs.Text.{begins_with}
use Rattle.st_words.specs.Places.{spelled}
use Rattle.st_program.specs.Declarations.{nowhere}
use Rattle.st_program.proofs.Declared.{placed}
use Rattle.st_program.proofs.declarations.read_place.Goals as goal

pub returns-in_default-clause-place : goal.returns-in_default-clause-place
returns-in_default-clause-place c = nowhere _

pub returns-in-Some-first_word-clause-place : goal.returns-in-Some-first_word-clause-place
returns-in-Some-first_word-clause-place c =
    let percent : begins_with 37 (spelled c.args.text.now c.in-Some-first_word.word) ≡ true = cc in
    placed _ _ _ _ _ c.in-Some.ensures.marked c.in-Some-first_word.ensures.first percent
