use Rattle.std.proofs.Common.{◌≡◌, ◌+◌, ◌∙◌, true, sym, slice_get}
use Rattle.std.proofs.lemmas.Bool.{false≢true}
use Rattle.st_statements.specs.Operands.{reads}
use Rattle.export_check.specs.Jumps.{passes_there}
use Rattle.export_check.proofs.Shown.{reads_more}
use Rattle.export_check.proofs.flags.+reads_from.Goals.{else-passes_there-via-then-passes_there+else-not-reads, else-passes_there-via-else-passes_there}
use Rattle.export_check.proofs.flags.+reads_from.Goals as goal

pub returns : goal.returns
returns t c = λ later.
    let looks : passes_there c.args.rung (slice_get c.args.plan.jumps.now c.args.number) ≡ true → reads (c.args.plan.first + c.args.number) c.args.expression.now ≡ true =
    elim c.else-passes_there.branch [
      | else-passes_there-via-then-passes_there+else-not-reads w ↦ λ over. sym w.if-not-reads.ensures
      | else-passes_there-via-else-passes_there w ↦ λ over. absurd (false≢true (w.if-passes_there.ensures ∙ over))
    ] in
    reads_more c.args.number c.args.plan.first c.args.plan.jumps.now c.args.rung c.args.expression.now looks (c.reads_from.ensures later)
