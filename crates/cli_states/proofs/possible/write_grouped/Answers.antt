use Rattle.std.proofs.Common.{inl, inr, length, refl}
use Rattle.text_causes.specs.CauseText.{limited}
use Rattle.text_lists.specs.ClassText.{possible_group_text}
use Rattle.cli_inputs.proofs.Ends.{cause_fault}
use Rattle.cli_states.specs.AnyState.{possible_group_refusal}
use Rattle.cli_questions.specs.Query.{question_of}
use Rattle.cli_states.specs.Query.{at_stored}
use Rattle.cli_states.proofs.PossibleEnds.{group_counts_are, groups_text_is}
use Rattle.cli_states.proofs.possible.write_grouped.Goals as goal

pub returns-in-Err : goal.returns-in-Err
returns-in-Err g c = inl (cause_fault (possible_group_refusal (at_stored (question_of c.args.asked.now))) c.in-Err.fault c.in-Err.ensures.refused, refl)

pub returns-in-Ok-written : goal.returns-in-Ok-written
returns-in-Ok-written g c =
    let r = c.args.request.now in
    let q = at_stored (question_of c.args.asked.now) in
    let groups = c.in-Ok.groups in
    let made = c.in-Ok.ensures in
    let w = c.in-Ok-written in
    let rows = limited r.limit groups.rest in (
      possible_group_text groups.program groups.listed (limited r.limit groups.rest),
      record {
        accepted = made.accepted;
        staying = made.rest.staying;
        stays = made.rest.stays;
        groups = groups.rest;
        are = made.rest.are;
        written = groups_text_is r q groups made.program made.listed;
        count = group_counts_are r q groups made.program made.listed c.args.expressions c.group_counts_of.result
            (c.group_counts_of.ensures (length groups.listed) rows (w.ensures.rows, w.ensures.causes, w.ensures.unsettled));
      },
      w.ensures.bytes,
    )

pub returns-in-Err-written : goal.returns-in-Err-written
returns-in-Err-written g c =
    let r = c.args.request.now in
    let q = at_stored (question_of c.args.asked.now) in
    let groups = c.in-Ok.groups in
    let made = c.in-Ok.ensures in
    inr (
      refl,
      (
        possible_group_text groups.program groups.listed (limited r.limit groups.rest),
        record {
          accepted = made.accepted;
          staying = made.rest.staying;
          stays = made.rest.stays;
          groups = groups.rest;
          are = made.rest.are;
          written = groups_text_is r q groups made.program made.listed;
          count = tt;
        },
        c.in-Err-written.ensures.bytes,
      ),
    )
