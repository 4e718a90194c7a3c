use Rattle.std.proofs.Common.{◌∙◌, sym}
use Rattle.st_program.proofs.Declared.{share_one}
use Rattle.st_program.proofs.declarations.may_share.Goals as goal

pub returns-in-Some : goal.returns-in-Some
returns-in-Some c = λ one. share_one _ _ _ c.in-Some.is (sym c.is_one.ensures ∙ one)
