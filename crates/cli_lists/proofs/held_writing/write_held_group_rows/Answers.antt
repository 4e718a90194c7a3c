use Rattle.std.proofs.Common.{◌∙◌, inl, inr, refl, subst, List, ℕ}
use Rattle.std.specs.Prelude.{option_map}
use Rattle.io_text.specs.Log.{PutsAll, PutsPrefix}
use Rattle.causes_held.specs.Assuming.{assumed_held_groups}
use Rattle.causes_held.specs.GroupRefusal.{held_group_refusal}
use Rattle.cli_questions.specs.Query.{question_of}
use Rattle.cli_lists.proofs.Forms.{held_group_first, held_groups_are, held_summary_is}
use Rattle.cli_lists.proofs.held_writing.write_held_group_rows.Goals as goal

pub returns-in-Err : goal.returns-in-Err
returns-in-Err g c =
    let q = question_of c.args.asked.now in
    inl (rw c.held_group_fault.ensures (held_group_first (held_group_refusal q c.args.rows.scans) c.in-Err.fault c.in-Err.ensures.refused), refl)

pub returns-in-Ok-written : goal.returns-in-Ok-written
returns-in-Ok-written g c =
    let f = c.args.rows in
    let q = question_of c.args.asked.now in
    let xs = assumed_held_groups (option_map (λ e. e.now) c.args.assumed) q f.scans in
    let groups = c.in-Ok.groups in
    let made = c.in-Ok.ensures in
    let w = c.in-Ok-written in (
      made.accepted,
      held_summary_is f.limit q xs groups made.listed made.rest w.summary w.ensures.rows w.ensures.causes,
      subst (λ (text : List ℕ). PutsAll (g.O.Sink.log c.args.out.now) (g.O.Sink.log c.write_held_groups-written.new.writer) text)
          (held_groups_are f.limit q xs groups made.listed made.rest made.program) w.ensures.bytes,
    )

pub returns-in-Err-written : goal.returns-in-Err-written
returns-in-Err-written g c =
    let f = c.args.rows in
    let q = question_of c.args.asked.now in
    let xs = assumed_held_groups (option_map (λ e. e.now) c.args.assumed) q f.scans in
    let groups = c.in-Ok.groups in
    let made = c.in-Ok.ensures in
    inr (
      refl,
      made.accepted,
      subst (λ (text : List ℕ). PutsPrefix (g.O.Sink.log c.args.out.now) (g.O.Sink.log c.write_held_groups-written.new.writer) text)
          (held_groups_are f.limit q xs groups made.listed made.rest made.program) c.in-Err-written.ensures.bytes,
    )
