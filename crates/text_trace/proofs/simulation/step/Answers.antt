use Rattle.std.proofs.Common.{◌≡◌, ◌∙◌, List, Result, ap, length, refl, sym}
use Rattle.std.specs.Prelude.{Bool}
use Rattle.csv.specs.Records.{fields_of}
use Rattle.io_text.specs.Left.{Fields}
use Rattle.scan_cycle.specs.Programs.{diagram_of}
use Rattle.scan_cycle.specs.Standing.{Standing}
use Rattle.io_text.specs.Log.{WriteLog}
use Rattle.text_trace.specs.declared.fault.SimFault.{SimFault}
use Rattle.text_trace.specs.Coming.{Gives}
use Rattle.text_trace.specs.Room.{bits_of}
use Rattle.text_trace.specs.Simulation.{as_film, as_waves, with_scans}
use Rattle.text_trace.specs.Steps.{ScansTo, StepsTo}
use Rattle.text_trace.specs.Trace.{Recorded, as_changes, as_trace, as_watched}
use Rattle.text_trace.proofs.Scanned.{given_image, on_ok, over, steps_of}
use Rattle.text_trace.proofs.simulation.step.Given as given
use Rattle.text_trace.proofs.simulation.step.Goals as goal
use Rattle.text_trace.proofs.simulation.step.Goals.{After-give_columns}

-- a scan with the image that the values of all inputs and then the bits of the row were written over
of_row : (g : given.Over) (c : After-give_columns g) {T : Type 0} (recorded : Recorded) (image : List Bool) (t : Standing) (old new : WriteLog) (r : Result T SimFault)
    → image ≡ over c.args.room.now.image.len c.give_columns.new.image (over c.args.room.now.image.len c.fill_inputs.new.image c.args.room.now.image.items)
    → ScansTo recorded c.args.run.program.now c.args.run.done c.args.taken.number c.args.state.now c.in-Some.moment image t old new r
    → (fields : Fields) → Gives c.args.columns.now c.args.taken.moment (fields_of c.args.row.now) fields
    → StepsTo (with_scans c.args.run.every recorded) c.args.run.program.now c.args.columns.now c.args.run.done c.args.taken.number c.args.state.now fields t old new r
of_row g c recorded image t old new r same scans fields gives =
    let bits = bits_of (fields_of c.args.row.now) in
    let kept = c.args.room.now.image in
    let filled = rw c.deref.ensures.value at c.fill_inputs.ensures ∙ c.requires.ready.inputs c.args.state.now.held.values c.requires.fits.values in
    let given = given_image kept.len c.args.columns.now bits kept.items c.fill_inputs.new.image c.give_columns.new.image _ c.deref_mut-2.result.now
    (ap length (sym c.deref_mut.ensures.value) ∙ c.deref_mut.ensures.len) (c.fill_inputs.auto.image ∙ c.deref_mut.ensures.len) (c.give_columns.auto.image ∙ c.deref_mut-2.ensures.len)
    c.deref_mut-2.ensures.value filled c.give_columns.ensures in
    steps_of recorded c.args.run.every c.args.run.program.now c.args.columns.now c.args.run.done c.args.taken.number c.args.state.now fields c.in-Some.moment bits image t old new r
    (rw c.in-Some.is at gives).0 (same ∙ given) scans

pub returns-in-Trace-clause-steps : goal.returns-in-Trace-clause-steps
returns-in-Trace-clause-steps g c =
    rw c.in-Trace.is (of_row g (goal.at.returns-in-Trace-clause-steps g c).After-give_columns as_trace _ _ _ _ _ refl c.trace_scan.ensures.scans)

pub returns-in-Watched-clause-steps : goal.returns-in-Watched-clause-steps
returns-in-Watched-clause-steps g c =
    rw c.in-Watched.is
    (of_row g (goal.at.returns-in-Watched-clause-steps g c).After-give_columns (as_watched c.in-Watched.watched.now) _ _ _ _ _ refl c.watch_scan.ensures.scans)

pub returns-in-Changes-clause-steps : goal.returns-in-Changes-clause-steps
returns-in-Changes-clause-steps g c =
    rw c.in-Changes.is
    (of_row g (goal.at.returns-in-Changes-clause-steps g c).After-give_columns (as_changes c.in-Changes.watched.now) _ _ _ _ _ refl c.change_scan.ensures.scans)

pub returns-in-Film-clause-steps : goal.returns-in-Film-clause-steps
returns-in-Film-clause-steps g c =
    rw c.in-Film.is
    (of_row g (goal.at.returns-in-Film-clause-steps g c).After-give_columns (as_film c.in-Film.film) _ _ _ _ _ c.deref-in-Film.ensures.value c.draw_scan.ensures.scans)

pub returns-in-Waves-clause-steps : goal.returns-in-Waves-clause-steps
returns-in-Waves-clause-steps g c =
    rw c.in-Waves.is (of_row g (goal.at.returns-in-Waves-clause-steps g c).After-give_columns as_waves _ _ _ _ _ refl c.wave_scan.ensures.scans)

pub returns-in-Film-clause-rest : goal.returns-in-Film-clause-rest
returns-in-Film-clause-rest g c =
    on_ok c.draw_scan.result _ (c.forget.ensures (diagram_of c.args.run.program.now) c.requires.rest.users c.draw_scan.new.state.moment c.draw_scan.new.state.held)
