use Rattle.std.proofs.Common.{◌∙◌, inl, inr, refl, subst, List, ℕ}
use Rattle.std.specs.Prelude.{option_map}
use Rattle.io_text.specs.Log.{PutsAll, PutsPrefix}
use Rattle.causes_one_scan.specs.Assuming.{assumed_causes_after, assumed_search_of}
use Rattle.causes_one_scan.specs.Cursor.{first_number}
use Rattle.cli_questions.specs.Query.{question_of}
use Rattle.cli_lists.proofs.Forms.{causes_are, summary_is}
use Rattle.cli_lists.proofs.listing.write_rows.Goals as goal

pub returns-in-Err : goal.returns-in-Err
returns-in-Err g c = inl (c.in-Err.ensures.refused, refl)

pub returns-in-Ok-written : goal.returns-in-Ok-written
returns-in-Ok-written g c =
    let f = c.args.rows in
    let q = question_of c.args.asked.now in
    let assumed = option_map (λ e. e.now) c.args.assumed in
    let xs = assumed_causes_after assumed f.after q in
    let causes = c.in-Ok.causes in
    let made = c.in-Ok.ensures in
    let w = c.in-Ok-written in (
      made.accepted,
      summary_is f.limit f.upto xs q causes made.program made.listed made.rest w.summary (assumed_search_of assumed q (first_number f.after)) made.search made.looks
          w.ensures.rows (w.ensures.looks ∙ w.ensures.counted),
      subst (λ (text : List ℕ). PutsAll (g.O.Sink.log c.args.out.now) (g.O.Sink.log c.write_upto-written.new.writer) text)
          (causes_are f.limit f.upto xs q causes made.program made.listed made.rest) w.ensures.bytes,
    )

pub returns-in-Err-written : goal.returns-in-Err-written
returns-in-Err-written g c =
    let f = c.args.rows in
    let q = question_of c.args.asked.now in
    let xs = assumed_causes_after (option_map (λ e. e.now) c.args.assumed) f.after q in
    let causes = c.in-Ok.causes in
    let made = c.in-Ok.ensures in
    inr (
      refl,
      made.accepted,
      subst (λ (text : List ℕ). PutsPrefix (g.O.Sink.log c.args.out.now) (g.O.Sink.log c.write_upto-written.new.writer) text)
          (causes_are f.limit f.upto xs q causes made.program made.listed made.rest) c.in-Err-written.ensures.bytes,
    )
