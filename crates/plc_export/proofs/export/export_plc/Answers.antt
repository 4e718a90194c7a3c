use Rattle.std.proofs.Common.{sym}
use Rattle.xml_document.specs.Items.{items_of}
use Rattle.plc_export.proofs.export.export_plc.Goals as goal

pub returns-then-branch-clause-exported : goal.returns-then-branch-clause-exported
returns-then-branch-clause-exported c = record {
  document = items_of c.in_ok-document.document;
  statements = c.in_ok-exported.exported.text.items;
  program = c.in_ok-exported.exported.program;
  is = rw (sym c.deref-2.ensures.value) c.in_ok-document.ensures.is;
  exported = c.in_ok-exported.ensures.exported;
  by = c.in_ok-exported.ensures.by;
  unit = c.in_ok-is_unit_of.ensures.is c.if-branch.true;
}
