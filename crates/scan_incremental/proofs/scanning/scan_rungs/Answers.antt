use Rattle.std.proofs.Common.{◌∙◌, ◌≤◌, ◌<◌, ap, sym, arith}
use Rattle.scan_cycle.specs.Rung.{evaluated}
use Rattle.scan_cycle.specs.Scan.{next_rung}
use Rattle.scan_cycle.specs.RungByRung.{Scanned, scanned}
use Rattle.scan_cycle.specs.Programs.{diagram_of}
use Rattle.scan_cycle.proofs.Rungs.{passed_over, gone_through, at_first, resume_first}
use Rattle.scan_cycle.proofs.Sizes.{sizes_same}
use Rattle.scan_incremental.proofs.Giving.{rest_same}
use Rattle.scan_incremental.proofs.scanning.scan_rungs.Goals as goal
use Rattle.scan_incremental.proofs.scanning.scan_rungs.Goals.{then-resume-rung, else-resume-rung}

pub loop-rung-init : goal.loop-rung-init
loop-rung-init c = record {
  state = sym (at_first (diagram_of c.args.program.now) c.args.now c.args.storage.now);
  resume = sym (resume_first (diagram_of c.args.program.now) c.args.now c.args.storage.now);
  sizes = c.requires.sizes;
  rest = c.requires.rest;
}

pub loop-rung-preserved : goal.loop-rung-preserved
loop-rung-preserved c =
    let d = diagram_of c.args.program.now in
    let now = c.args.now in
    let j = c.loop-rung.rung in
    let h = c.args.storage.now in
    let s = scanned d now h j in
    elim c.if-resume-rung.branch [
      | then-resume-rung w ↦
          let on : s.resume ≤ j = omega (arith, c.loop-rung.invariant.resume, w.if-resume-rung.true) in
          record {
            state = w.storage-is ∙ w.scan_rung-resume.ensures.held ∙ ap (evaluated d now j) c.loop-rung.invariant.state ∙ sym (ap (λ (x : Scanned). x.held) (gone_through d now h j on));
            resume = w.resume-is ∙ w.scan_rung-resume.ensures.after ∙ ap (next_rung d now j) c.loop-rung.invariant.state ∙ sym (ap (λ (x : Scanned). x.resume) (gone_through d now h j on));
            sizes = sizes_same w.start-is w.storage-is w.scan_rung-resume.ensures.sizes;
            rest = rest_same d now w.storage-is w.next-is w.scan_rung-resume.ensures.rest;
          }
      | else-resume-rung w ↦
          let off : j < s.resume = omega (arith, c.loop-rung.invariant.resume, w.if-resume-rung.false) in
          record {
            state = w.storage-is ∙ c.loop-rung.invariant.state ∙ sym (ap (λ (x : Scanned). x.held) (passed_over d now h j off));
            resume = w.resume-is ∙ c.loop-rung.invariant.resume ∙ sym (ap (λ (x : Scanned). x.resume) (passed_over d now h j off));
            sizes = sizes_same w.start-is w.storage-is c.loop-rung.invariant.sizes;
            rest = rest_same d now w.storage-is w.next-is c.loop-rung.invariant.rest;
          }
    ]
