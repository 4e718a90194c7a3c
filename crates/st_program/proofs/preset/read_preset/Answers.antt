use Rattle.std.proofs.Common.{◌∙◌, sym}
use Rattle.st_program.specs.Declarations.{not_here}
use Rattle.st_program.proofs.Declared.{preset_here}
use Rattle.st_program.proofs.preset.read_preset.Goals as goal

pub returns-in_default-clause-preset : goal.returns-in_default-clause-preset
returns-in_default-clause-preset c = not_here _

pub returns-clause-preset : goal.returns-clause-preset
returns-clause-preset c =
    preset_here _ _ _ _ _ _ _ _ _ _ _ (sym c.traits.ensures.parameter ∙ c.in-Some-parameter.is) c.in-Some.ensures.marked c.in_ok-name.ensures.marked
    c.in_ok-before.ensures.named c.in_ok-word.ensures.marked c.in_ok-value.ensures.value c.in_ok-rest.ensures.marked
