use Rattle.std.proofs.Common.{Err, inr, refl, subst, sym}
use Rattle.csv.specs.Records.{fields_of}
use Rattle.io_text.proofs.Puts.{puts_none}
use Rattle.text_trace.specs.declared.fault.SimFault.TheVariants as fault
use Rattle.text_trace.specs.Filled.{filled, numbered}
use Rattle.text_trace.specs.Stimulus.{IsHeader}
use Rattle.text_trace.specs.Steps.{as_lines, as_run}
use Rattle.text_trace.proofs.Plain.{fresh_sound, header_at, header_comes}
use Rattle.text_trace.proofs.Taking.{going_none, none_left, one_left}
use Rattle.text_trace.proofs.Telling.{bad_header_lines, cut_header_lines}
use Rattle.text_trace.proofs.Whole.{bad_header, cut_header, no_header}
use Rattle.text_trace.proofs.simulation.follow_records.Goals as goal

pub returns-in_default-clause-ends : goal.returns-in_default-clause-ends
returns-in_default-clause-ends g c = λ rows left. ((Err fault.Memory, inr (refl, refl), refl), (Err fault.Memory, inr (refl, refl), refl))

pub returns-then-not-found-clause-ends : goal.returns-then-not-found-clause-ends
returns-then-not-found-clause-ends g c = λ rows left.
    let none = none_left rows 0 c.in-Ok.found _ _ c.if-not-found.true (c.in-Ok.ensures.takes rows left) in (
      no_header (as_run c.args.run) c.args.run.program.now c.args.state.now c.args.filling.now.every rows _ none,
      no_header (as_lines c.args.run) c.args.run.program.now c.args.state.now c.args.filling.now.every rows _ none,
    )

pub returns-in-Err-clause-ends : goal.returns-in-Err-clause-ends
returns-in-Err-clause-ends g c = λ rows left.
    let next = one_left rows 0 c.in-Ok.found _ _ c.if-not-found.false (c.in-Ok.ensures.takes rows left) in (
      bad_header (as_run c.args.run) c.args.run.program.now c.args.state.now c.args.filling.now.every rows (fields_of c.next.new.row) _ c.in-Err.fault next.0
          (λ behind. rw c.decls.ensures at (c.in-Err.ensures.refused behind)),
      bad_header_lines (as_lines c.args.run) c.args.run.program.now c.args.state.now c.args.filling.now.every rows (fields_of c.next.new.row) _ c.in-Err.fault next.0
          (λ behind. rw c.decls.ensures at (c.in-Err.ensures.refused behind)),
    )

pub returns-in_default-write_head-clause-ends : goal.returns-in_default-write_head-clause-ends
returns-in_default-write_head-clause-ends g c = λ rows left.
    let next = one_left rows 0 c.in-Ok.found _ _ c.if-not-found.false (c.in-Ok.ensures.takes rows left) in (
      cut_header (as_run c.args.run) c.args.run.program.now c.args.state.now c.args.filling.now.every rows (fields_of c.next.new.row) _ _ _ next.0
          (rw c.decls.ensures at c.in-Ok-columns.ensures.columns) c.in_default-write_head.ensures.wrote,
      cut_header_lines (as_run c.args.run) c.args.run.lines c.args.run.program.now c.args.state.now c.args.filling.now.every rows (fields_of c.next.new.row) _ _ next.0
          (rw c.decls.ensures at c.in-Ok-columns.ensures.columns),
    )

pub follow_rows-requires-clause-sound : goal.follow_rows-requires-clause-sound
follow_rows-requires-clause-sound g c =
    let header = subst (IsHeader c.args.run.program.now.decls (fields_of c.next.new.row)) (sym c.deref.ensures.value) (rw c.decls.ensures at c.in-Ok-columns.ensures.columns) in
    fresh_sound c.args.run.program.now.decls _ _ c.in-Ok.ensures.plain c.requires.fresh.none c.requires.fresh.unread header

pub returns-clause-ends : goal.returns-clause-ends
returns-clause-ends g c = λ rows left.
    let every = c.args.filling.now.every in
    let decls = c.args.run.program.now.decls in
    let fields = fields_of c.next.new.row in
    let next = one_left rows 0 c.in-Ok.found _ _ c.if-not-found.false (c.in-Ok.ensures.takes rows left) in
    let header = subst (IsHeader decls fields) (sym c.deref.ensures.value) (rw c.decls.ensures at c.in-Ok-columns.ensures.columns) in
    let at = header_at every rows fields next.0 in
    let comes = header_comes decls _ _ every rows fields next.0 header next.1 c.requires.fresh.unread c.requires.fresh.first refl refl in
    c.follow_rows.ensures.ends (filled every rows) _ _
    (going_none (as_run c.args.run) c.args.run.program.now _ c.args.state.now (filled every rows) (numbered 1 fields) _ _ _ at header
    c.in-Ok-write_head.ensures.wrote comes)
    (going_none (as_lines c.args.run) c.args.run.program.now _ c.args.state.now (filled every rows) (numbered 1 fields) _ _ _ at header (puts_none _) comes)
