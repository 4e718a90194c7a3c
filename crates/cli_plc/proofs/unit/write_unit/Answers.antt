use Rattle.std.proofs.Common.{inl, refl}
use Rattle.cli_plc.specs.Xml.{xml_text}
use Rattle.cli_plc.proofs.Saying.{either}
use Rattle.cli_plc.proofs.unit.write_unit.Goals as goal

pub returns-in-Err-clause-failed : goal.returns-in-Err-clause-failed
returns-in-Err-clause-failed g c = λ status. inl (
  refl,
  record {
    said = xml_text c.args.why c.args.text.now c.in-Err.fault;
    is = inl (c.in-Err.fault, c.in-Err.ensures.refused, refl);
    written = either _ _ _ _ c.write_xml_fault.ensures;
  },
)
