use Rattle.std.proofs.Common.{◌∙◌, inl, inr, refl, subst, List, ℕ}
use Rattle.std.specs.Prelude.{option_map}
use Rattle.io_text.specs.Log.{PutsAll, PutsPrefix}
use Rattle.scan_held.specs.HeldRefusal.{held_refusal}
use Rattle.causes_held.specs.Assuming.{assumed_held_causes}
use Rattle.cli_questions.specs.Query.{question_of}
use Rattle.cli_lists.proofs.Forms.{held_count_is, held_first, held_is}
use Rattle.cli_lists.proofs.held_writing.write_held_rows.Goals as goal

pub returns-in-Err : goal.returns-in-Err
returns-in-Err g c =
    let q = question_of c.args.asked.now in
    inl (rw c.held_fault.ensures (held_first (held_refusal q c.args.rows.scans) c.in-Err.fault c.in-Err.ensures.refused), refl)

pub returns-in-Ok-written : goal.returns-in-Ok-written
returns-in-Ok-written g c =
    let f = c.args.rows in
    let q = question_of c.args.asked.now in
    let xs = assumed_held_causes (option_map (λ e. e.now) c.args.assumed) q f.scans in
    let causes = c.in-Ok.causes in
    let made = c.in-Ok.ensures in
    let w = c.in-Ok-written in (
      made.accepted,
      held_count_is f.limit q xs causes made.rest w.rows w.ensures.rows,
      subst (λ (text : List ℕ). PutsAll (g.O.Sink.log c.args.out.now) (g.O.Sink.log c.write_held_causes-written.new.writer) text)
          (held_is f.limit q xs causes made.rest made.program made.listed) w.ensures.bytes,
    )

pub returns-in-Err-written : goal.returns-in-Err-written
returns-in-Err-written g c =
    let f = c.args.rows in
    let q = question_of c.args.asked.now in
    let xs = assumed_held_causes (option_map (λ e. e.now) c.args.assumed) q f.scans in
    let causes = c.in-Ok.causes in
    let made = c.in-Ok.ensures in
    inr (
      refl,
      made.accepted,
      subst (λ (text : List ℕ). PutsPrefix (g.O.Sink.log c.args.out.now) (g.O.Sink.log c.write_held_causes-written.new.writer) text)
          (held_is f.limit q xs causes made.rest made.program made.listed) c.in-Err-written.ensures.bytes,
    )
