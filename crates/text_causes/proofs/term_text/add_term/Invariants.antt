use Rattle.std.proofs.Common.{length, map, slice_get}
use Rattle.search_groups.specs.Groups.{cells}
use Rattle.text_causes.specs.Rows.{name_in}
use Rattle.text_causes.specs.TermText.{literals}
use Rattle.text_causes.proofs.TermLaws.{Term, said}
use Rattle.text_causes.proofs.term_text.add_term.Given as goal

abbrev pub invariant-loop-index : goal.invariant-loop-index
invariant-loop-index g l =
    Term (g.W.Sink.log l.fn.writer) (g.W.Sink.log l.writer) l.fn.buffer l.buffer l.brackets l.begun
    (literals (map (λ v. name_in (slice_get l.decls.vars v)) l.listed) (cells (length l.listed) l.group))
    (said (λ v. name_in (slice_get l.decls.vars v)) l.listed l.group l.index)
