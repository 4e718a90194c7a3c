use Rattle.std.proofs.Common.{◌∙◌, ◌≤◌, ◌<◌, ◌++◌, List, ap, sym, arith}
use Rattle.diagram_program.specs.declared.geometry.TheConstants.{PLACES}
use Rattle.scan_cycle.specs.declared.seen.Mark.{Mark}
use Rattle.scan_cycle.specs.Rung.{Held, evaluated}
use Rattle.scan_cycle.specs.Scan.{next_rung}
use Rattle.scan_cycle.specs.RungByRung.{Scanned, scanned}
use Rattle.scan_cycle.specs.Programs.{diagram_of}
use Rattle.diagram_program.specs.AllPlaces.{first_places}
use Rattle.scan_cycle.specs.Seen.{mark_in, mark_passed}
use Rattle.scan_cycle.proofs.Rungs.{passed_over, gone_through, at_first, resume_first}
use Rattle.scan_cycle.proofs.Sizes.{sizes_same}
use Rattle.scan_cycle.proofs.Marks.{marks_first, marks_passed, marks_seen}
use Rattle.scan_cycle.proofs.seen.see_rungs.Goals as goal
use Rattle.scan_cycle.proofs.seen.see_rungs.Goals.{then-resume-rung+in_ok-resume, else-resume-rung+in_ok-add_passed}

pub loop-rung-init : goal.loop-rung-init
loop-rung-init c = record {
  state = sym (at_first (diagram_of c.args.program.now) c.args.now c.args.storage.now);
  resume = sym (resume_first (diagram_of c.args.program.now) c.args.now c.args.storage.now);
  sizes = c.requires.sizes;
  marks = c.new-marks.ensures.items ∙ sym (marks_first (diagram_of c.args.program.now) c.args.now c.args.storage.now);
}

pub loop-rung-preserved : goal.loop-rung-preserved
loop-rung-preserved c =
    let d = diagram_of c.args.program.now in
    let now = c.args.now in
    let j = c.loop-rung.rung in
    let h = c.args.storage.now in
    let s = scanned d now h j in
    let inv = c.loop-rung.invariant in
    elim c.if-resume-rung.branch [
      | then-resume-rung+in_ok-resume w ↦
          let on : s.resume ≤ j = omega (arith, inv.resume, w.if-resume-rung.true) in
          record {
            state = w.storage-is ∙ w.in_ok-resume.ensures.held ∙ ap (evaluated d now j) inv.state ∙ sym (ap (λ (x : Scanned). x.held) (gone_through d now h j on));
            resume = w.resume-is ∙ w.in_ok-resume.ensures.next ∙ ap (next_rung d now j) inv.state ∙ sym (ap (λ (x : Scanned). x.resume) (gone_through d now h j on));
            sizes = sizes_same w.start-is w.storage-is w.in_ok-resume.ensures.sizes;
            marks =
                ap (λ v. v.items) w.marks-is
                ∙ w.in_ok-resume.ensures.marks
                ∙ ap (λ (x : Held). c.loop-rung.marks.items ++ first_places (mark_in d now j x) PLACES) inv.state
                ∙ ap (λ (t : List Mark). t ++ first_places (mark_in d now j s.held) PLACES) inv.marks
                ∙ sym (marks_seen d now h j on);
          }
      | else-resume-rung+in_ok-add_passed w ↦
          let off : j < s.resume = omega (arith, inv.resume, w.if-resume-rung.false) in
          record {
            state = w.storage-is ∙ inv.state ∙ sym (ap (λ (x : Scanned). x.held) (passed_over d now h j off));
            resume = w.resume-is ∙ inv.resume ∙ sym (ap (λ (x : Scanned). x.resume) (passed_over d now h j off));
            sizes = sizes_same w.start-is w.storage-is inv.sizes;
            marks =
                ap (λ v. v.items) w.marks-is
                ∙ w.in_ok-add_passed.ensures
                ∙ ap (λ (x : Held). c.loop-rung.marks.items ++ first_places (λ place. mark_passed x (d.cell j place)) PLACES) inv.state
                ∙ ap (λ (t : List Mark). t ++ first_places (λ place. mark_passed s.held (d.cell j place)) PLACES) inv.marks
                ∙ sym (marks_passed d now h j off);
          }
    ]
