use Rattle.std.proofs.Common.{true, false}
use Rattle.std.specs.Prelude.{option_map}
use Rattle.cli_questions.specs.Query.{question_of}
use Rattle.cli_states.specs.Query.{at_stored}
use Rattle.cli_states.proofs.PossibleEnds.{written_either, written_runs}
use Rattle.cli_states.proofs.possible.write_any.Goals as goal

pub returns-in-Some : goal.returns-in-Some
returns-in-Some g c =
    let r = c.args.request.now in
    written_runs r (at_stored (question_of c.args.asked.now)) _ _ _ (option_map (λ e. e.now) c.args.assumed) c.args.expressions r.runs c.in-Some.runs r.grouped c.in-Some.is
    c.write_in_runs.ensures

pub returns-then-request : goal.returns-then-request
returns-then-request g c =
    let r = c.args.request.now in
    written_either r (at_stored (question_of c.args.asked.now)) _ _ _ (option_map (λ e. e.now) c.args.assumed) c.args.expressions r.runs r.grouped true c.in_default.is
    c.if-request.true c.write_grouped.ensures

pub returns : goal.returns
returns g c =
    let r = c.args.request.now in
    written_either r (at_stored (question_of c.args.asked.now)) _ _ _ (option_map (λ e. e.now) c.args.assumed) c.args.expressions r.runs r.grouped false c.in_default.is
    c.if-request.false c.write_rows.ensures
