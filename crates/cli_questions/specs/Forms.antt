-- The form in which groups are written.
use Rattle.std.specs.Prelude.{ℕ}
use Rattle.cli_arguments.specs.declared.request.GroupFormat.{GroupFormat}
use Rattle.cli_arguments.specs.declared.request.GroupFormat.TheVariants.{Table, Terms, Statement}
use Rattle.text_causes.specs.declared.group_text.GroupForm.{GroupForm}
use Rattle.text_causes.specs.declared.group_text.GroupForm.TheVariants as group_form

-- a form for the groups of a coil
abbrev pub form_on : GroupFormat → ℕ → GroupForm
form_on Table coil = group_form.Table
form_on Terms coil = group_form.Terms
form_on Statement coil = group_form.Statement coil
