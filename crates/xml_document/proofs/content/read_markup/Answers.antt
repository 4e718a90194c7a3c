use Rattle.std.proofs.Common.{refl}
use Rattle.xml_document.specs.Markup.{comment, instruction, section}
use Rattle.xml_document.proofs.Adding.{decodes_nothing}
use Rattle.xml_document.proofs.content.read_markup.Goals as goal

pub returns-then-starts_with : goal.returns-then-starts_with
returns-then-starts_with c = decodes_nothing _ _ _ (comment _ _ c.in-Some.ensures) refl

pub returns-then-starts_with-2 : goal.returns-then-starts_with-2
returns-then-starts_with-2 c = decodes_nothing _ _ _ (instruction _ _ c.in-Some-behind_instruction.ensures) refl

pub returns-then-starts_with-3 : goal.returns-then-starts_with-3
returns-then-starts_with-3 c =
    record { bytes = _; are = section _ _ _ c.in-Some-section_at.ensures; whole = c.in_ok-extend_from_slice.ensures.items }
