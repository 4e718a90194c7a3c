use Rattle.std.proofs.Common.{List, subst, sym}
use Rattle.std.proofs.lemmas.Result.{on_ok_weaker}
use Rattle.scan_cycle.specs.declared.seen.Mark.{Mark}
use Rattle.scan_cycle.specs.Programs.{diagram_of}
use Rattle.scan_cycle.specs.Seen.{AreMarks}
use Rattle.text_drawing.specs.Showing.{scan_of}
use Rattle.text_drawing.proofs.Fitting.{fits_after}
use Rattle.text_drawing.proofs.Showings.{err_with, ok_always}
use Rattle.text_drawing.proofs.showing.write_drawing.Goals as goal

pub returns-clause-wrote : goal.returns-clause-wrote
returns-clause-wrote g c = on_ok_weaker c.write_seen-written.result (λ all. all c.args.state.now (record {
  left = c.in-Ok.ensures.state;
  seen = subst (λ (ms : List Mark). AreMarks (diagram_of c.args.scan.program.now) c.args.scan.moment c.args.scan.inputs.now c.args.state.now.held ms) (sym c.deref.ensures.value) c.in-Ok.ensures.marks;
})) c.write_seen-written.ensures.wrote

pub returns-clause-after : goal.returns-clause-after
returns-clause-after g c = ok_always c.write_seen-written.result c.in-Ok.ensures.state

pub returns-clause-fails : goal.returns-clause-fails
returns-clause-fails g c = err_with c.write_seen-written.result (λ e all. all c.args.state.now (record {
  left = c.in-Ok.ensures.state;
  seen = subst (λ (ms : List Mark). AreMarks (diagram_of c.args.scan.program.now) c.args.scan.moment c.args.scan.inputs.now c.args.state.now.held ms) (sym c.deref.ensures.value) c.in-Ok.ensures.marks;
})) c.write_seen-written.ensures.fails

pub returns-clause-fits : goal.returns-clause-fits
returns-clause-fits g c = λ fits.
    fits_after (scan_of c.args.scan c.args.state.now) c.checked.ensures fits c.in-Ok.sight.state c.in-Ok.ensures.state
