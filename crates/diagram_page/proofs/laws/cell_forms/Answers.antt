use Rattle.diagram_page.specs.ReadForm.{form_at}
use Rattle.diagram_page.proofs.FormLaws.{form_one, forms_told}
use Rattle.diagram_page.proofs.laws.cell_forms.Goals as goal

pub returns : goal.returns
returns c = record { one = form_one; decided = λ chars. (form_at chars, forms_told chars) }
