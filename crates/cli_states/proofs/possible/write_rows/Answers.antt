use Rattle.std.proofs.Common.{inl, inr, refl}
use Rattle.std.specs.Prelude.{None, option_map}
use Rattle.causes_query.specs.Refusal.{refusal}
use Rattle.text_lists.specs.PossibleText.{possible_text}
use Rattle.cli_inputs.proofs.Ends.{cause_fault}
use Rattle.cli_questions.specs.Query.{question_of}
use Rattle.cli_states.specs.Query.{at_stored}
use Rattle.cli_states.proofs.PossibleEnds.{are_all, are_some, same_counts}
use Rattle.cli_states.proofs.possible.write_rows.Goals as goal

pub returns-in-Err : goal.returns-in-Err
returns-in-Err g c = inl (cause_fault (refusal (at_stored (question_of c.args.asked.now)) None) c.in-Err.fault c.in-Err.ensures.refused, refl)

pub returns-in-Ok-written : goal.returns-in-Ok-written
returns-in-Ok-written g c =
    let assumed = option_map (λ e. e.now) c.args.assumed in
    let q = at_stored (question_of c.args.asked.now) in
    let causes = c.in-Ok.causes in
    let made = c.in-Ok.ensures in
    let e = c.in-Ok-written.ensures in (
      possible_text causes.program causes.listed e.0,
      are_all assumed c.args.expressions c.args.request.now q causes c.write_possible_causes-written.new.causes e.0 made.accepted made.cursor e.1 e.2 c.counts_of.result
          (same_counts c.args.expressions _ _ _ _ c.counts_of.result c.counts_of.ensures e.4.0.0 e.4.0.1) e.4.1,
      e.3,
    )

pub returns-in-Err-written : goal.returns-in-Err-written
returns-in-Err-written g c =
    let assumed = option_map (λ e. e.now) c.args.assumed in
    let q = at_stored (question_of c.args.asked.now) in
    let causes = c.in-Ok.causes in
    let made = c.in-Ok.ensures in
    let e = c.in-Err-written.ensures in
    inr (
      refl,
      (
        possible_text causes.program causes.listed e.0,
        are_some assumed c.args.expressions c.args.request.now q causes c.write_possible_causes-written.new.causes e.0 made.accepted made.cursor e.1 e.2,
        e.3,
      ),
    )
