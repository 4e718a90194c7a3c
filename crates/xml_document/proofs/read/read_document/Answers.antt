use Rattle.std.proofs.Common.{rules}
use Rattle.xml_document.proofs.Ends.{prolog_ends, ends_within}
use Rattle.xml_document.proofs.Growing.{document_read, document_spans, doctype_at}
use Rattle.xml_document.proofs.read.read_document.Goals as goal

pub overflow_sub-result : goal.overflow_sub-result
overflow_sub-result c = ends_within _ _ (prolog_ends _ _ c.in-Ok.ensures.prolog)

pub returns-then-starts_with-clause-refused : goal.returns-then-starts_with-clause-refused
returns-then-starts_with-clause-refused c = doctype_at _ _ c.in-Ok.ensures.prolog (search (rules, c.starts_with.ensures.value, c.if-starts_with.true))

pub returns-in-Ok-read_root-clause-read : goal.returns-in-Ok-read_root-clause-read
returns-in-Ok-read_root-clause-read c = document_read _ _ _ _ c.new-2.ensures.items c.in-Ok.ensures.text c.in-Ok.ensures.prolog c.in-Ok-read_root.ensures

pub returns-in-Ok-read_root-clause-spans : goal.returns-in-Ok-read_root-clause-spans
returns-in-Ok-read_root-clause-spans c = document_spans _ _ _ c.new-2.ensures.items c.in-Ok-read_root.ensures
