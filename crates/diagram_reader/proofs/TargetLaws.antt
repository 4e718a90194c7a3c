-- Where jumps lead to, as the code finds it.
use Rattle.std.proofs.Common.{◌≡◌, ℕ, Option, Some, refl}
use Rattle.diagram_page.specs.declared.form.Form.{Form}
use Rattle.diagram_page.specs.declared.form.Form.TheVariants.{Empty}
use Rattle.diagram_page.specs.Gap.{Labels}
use Rattle.diagram_reader.specs.PageRules.{target_of}
use Rattle.diagram_reader.specs.Checks.{jump_label, target_to}

pub target_is : (labels : Labels) (k : ℕ) (form : Option Form) → target_of labels k form ≡ target_to labels k (jump_label form)
target_is labels k (Some Empty) = refl
target_is labels k _ = refl
