-- Where a text is refused.
use Rattle.std.specs.Prelude.{◌≡◌, ℕ, ◌≤◌, true, nat_eq, List, length, drop, codes}
use Rattle.std.specs.List.{starts_with}
use Rattle.xml_document.specs.declared.fault.XmlFault.{XmlFault}
use Rattle.xml_document.specs.declared.fault.XmlFault.TheVariants as fault
use Rattle.xml_document.specs.Documents.{Prolog}

-- What is before the place is a prolog, and a document type begins there.
pub record DoctypeAt (text : List ℕ) (at : ℕ) : Type 0 where
  pub within : at ≤ length text
  pub prolog : Prolog text (drop at text)
  pub doctype : starts_with nat_eq (drop at text) (codes "<!DOCTYPE") ≡ true

abbrev pub Refuses : List ℕ → XmlFault → Type 0
Refuses text fault.Memory = Unit {0}
Refuses text (fault.Doctype at) = DoctypeAt text at
Refuses text (fault.Text reason at) = at ≤ length text
