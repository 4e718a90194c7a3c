-- What is said of a text that is no XML document that can be read: the line of the place, and where it is explained a sentence after it.
use Rattle.std.specs.Prelude.{◌+◌, ◌++◌, ◌==◌, ℕ, Bool, List, codes, decimal, take}
use Rattle.std.specs.List.{count_by}
use Rattle.xml_document.specs.declared.fault.Reason.{Reason}
use Rattle.xml_document.specs.declared.fault.Reason.TheVariants as reason
use Rattle.xml_document.specs.declared.fault.XmlFault.{XmlFault}
use Rattle.xml_document.specs.declared.fault.XmlFault.TheVariants as fault
use Rattle.cli_plc.specs.Lines.{explained}

-- the number of the line of a place, counted from 1; 10 ends a line
abbrev pub line_number : (text : List ℕ) → (at : ℕ) → ℕ
line_number text at = 1 + count_by (λ b. b == 10) (take at text)

abbrev pub xml_sentence : Reason → List ℕ
xml_sentence reason.Character = codes "N2: this is no XML document that can be read: a character that XML doesn't allow, or bytes that are no UTF-8\n"
xml_sentence reason.Declaration = codes "N2: this is no XML document that can be read: an XML declaration that can't be read\n"
xml_sentence reason.Encoding = codes "N2: this is no XML document that can be read: an encoding other than UTF-8\n"
xml_sentence reason.Outside = codes "N2: this is no XML document that can be read: something other than one root element\n"
xml_sentence reason.Comment = codes "N2: this is no XML document that can be read: a comment with no end, or with -- in it\n"
xml_sentence reason.Instruction = codes "N2: this is no XML document that can be read: a processing instruction that can't be read\n"
xml_sentence reason.Section = codes "N2: this is no XML document that can be read: a CDATA section with no end\n"
xml_sentence reason.Reference = codes "N2: this is no XML document that can be read: a reference to no character, or to an entity that isn't one of the five\n"
xml_sentence reason.SectionEnd = codes "N2: this is no XML document that can be read: ]]> in text\n"
xml_sentence reason.Tag = codes "N2: this is no XML document that can be read: a tag that can't be read\n"
xml_sentence reason.Attribute = codes "N2: this is no XML document that can be read: an attribute that can't be read\n"
xml_sentence reason.Twice = codes "N2: this is no XML document that can be read: an attribute twice in a tag\n"
xml_sentence reason.Attributes = codes "N2: this is no XML document that can be read: more than 256 attributes in a tag\n"
xml_sentence reason.EndTag = codes "N2: this is no XML document that can be read: an end tag that isn't that of the open element\n"
xml_sentence reason.Depth = codes "N2: this is no XML document that can be read: more than 200 elements within one another\n"
xml_sentence reason.End = codes "N2: this is no XML document that can be read: the end of the text, too early\n"

abbrev pub fault_sentence : XmlFault → List ℕ
fault_sentence fault.Memory = codes "X7: out of memory\n"
fault_sentence (fault.Doctype at) = codes "N2: a document type isn't read\n"
fault_sentence (fault.Text r at) = xml_sentence r

-- a line that ends with a number, and what explains it
abbrev pub placed : (line : List ℕ) → (number : ℕ) → (said : List ℕ) → List ℕ
placed line number said = line ++ (decimal number ++ (codes "\n" ++ said))

abbrev pub xml_text : (why : Bool) → (text : List ℕ) → XmlFault → List ℕ
xml_text why text fault.Memory = codes "fault X7\n" ++ explained why (fault_sentence fault.Memory)
xml_text why text (fault.Doctype at) = placed (codes "fault N2 line ") (line_number text at) (explained why (fault_sentence (fault.Doctype at)))
xml_text why text (fault.Text r at) = placed (codes "fault N2 line ") (line_number text at) (explained why (fault_sentence (fault.Text r at)))
