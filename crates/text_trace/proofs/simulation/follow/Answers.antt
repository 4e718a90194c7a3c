use Rattle.io_text.specs.Text.{records_of}
use Rattle.text_trace.specs.Reached.{as_reached}
use Rattle.text_trace.specs.Steps.{as_asked}
use Rattle.text_trace.proofs.Plain.{every_starved}
use Rattle.text_trace.proofs.Telling.{reaches_by}
use Rattle.text_trace.proofs.simulation.follow.Goals as goal

pub returns-in_default-clause-ends : goal.returns-in_default-clause-ends
returns-in_default-clause-ends g c =
    let rows = records_of c.args.stimulus.now in (
      every_starved (as_asked c.args.run.recording) c.args.run.every c.args.run.program.now c.args.state.now rows _,
      every_starved (as_reached c.args.run.lines (as_asked c.args.run.recording)) c.args.run.every c.args.run.program.now c.args.state.now rows _,
    )

pub returns-clause-ends : goal.returns-clause-ends
returns-clause-ends g c =
    let rows = records_of c.args.stimulus.now in
    reaches_by (as_asked c.args.run.recording) c.args.run.lines c.args.run.every c.filling_from-filling.result.every c.args.run.program.now c.args.state.now rows _ _ _ _ _ _
    c.filling_from-filling.ensures.every (c.follow_records.ensures.ends rows c.filling_from-filling.ensures.all)

pub follow_records-requires-clause-rest : goal.follow_records-requires-clause-rest
follow_records-requires-clause-rest g c = c.in-Ok.ensures.rest c.args.state.now.moment c.args.state.now.held
