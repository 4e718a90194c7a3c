use Rattle.std.proofs.Common.{◌∙◌, ap}
use Rattle.std.specs.Prelude.{codes}
use Rattle.cli_plc.specs.Lines.{explained}
use Rattle.cli_plc.specs.Xml.{fault_sentence}
use Rattle.cli_plc.proofs.Saying.{same_text}
use Rattle.cli_plc.proofs.xml.write_xml_fault.Goals as goal

pub returns-in-Doctype : goal.returns-in-Doctype
returns-in-Doctype g c =
    let said = c.explained-said.ensures ∙ ap (explained c.args.why) (c.fault_sentence.ensures ∙ ap fault_sentence c.in-Doctype.is) in
    rw c.in-Doctype.is (same_text _ _ _ (codes "fault N2 line ") _ _ _ _ c.line_number.ensures said c.put_placed.ensures)

pub returns-in-Text : goal.returns-in-Text
returns-in-Text g c =
    let said = c.explained-said.ensures ∙ ap (explained c.args.why) (c.fault_sentence.ensures ∙ ap fault_sentence c.in-Text.is) in
    rw c.in-Text.is (same_text _ _ _ (codes "fault N2 line ") _ _ _ _ c.line_number-in-Text.ensures said c.put_placed-in-Text.ensures)
